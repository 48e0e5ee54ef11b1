-- What comes to two ends in a connection: none of it falls after what was sent before it.
use Rattle.rasta_core_recovery.proofs.Words.Basics.{◌≡◌, ℕ, zero, suc, ◌∙◌, ◌+◌, ◌-◌, ◌/◌, ◌^◌, ◌≤◌, ◌<◌, Bool, true, false, if◌then◌else◌, List, [], ◌∷◌, drop, Some, refl, sym, ap, subst, arith}
use Rattle.rasta_core_recovery.proofs.Words.Links.{stamp, wire, LinkState, is_asking, is_open, Role, lifetime, Each, Sent, Names, Pdu, InFlight, Timely, Ordered, Times, times_of}
use Rattle.rasta_core_recovery.proofs.Words.Recovery.{IsOf, IsToldAt, Keeps, NoneFalls, Rises, Rising, Speaker, Stand, nothing_sent, stands, the_client, the_server, Flow, can_come}
use Rattle.rasta_core_recovery.proofs.Lemmas.Rounds.Facts.{each_map, in_newest, is_inside, young_client, young_server}
use Rattle.rasta_core_recovery.proofs.Lemmas.Falling.FallsLists.{none_falls, none_then}
use Rattle.rasta_core_recovery.proofs.Lemmas.Rounds.Links.{Pair}
use Rattle.rasta_core_recovery.proofs.Lemmas.Rounds.Lists.{each_drop}
use Rattle.rasta_core_recovery.proofs.Lemmas.Rounds.Mirror.{AreRead, Mirrors, arriving, bytes_from, chosen}
use Rattle.rasta_core_recovery.proofs.Lemmas.Rounds.Words.{Chain, IsNumbered, Row, row_most, voice_of}
use Rattle.rasta_core_recovery.proofs.Lemmas.Windows.WindowNumbers.{wire_once}

-- a PDU that this end said where it stood so, not long ago
pub record IsSaidAt (l m : LinkState) (at : Stand) (p : Pdu) : Type 0 where
  pub some : 1 ≤ at.sent
  pub number : p.sequence_number ≡ wire m.own_first (at.sent - 1)
  pub stamped : p.time_stamp ≡ stamp at.now
  pub before : at.now ≤ m.clock
  pub recent : m.clock ≤ at.now + 4000
  pub confirms : 2 ≤ at.sent → p.confirmed_sequence_number ≡ wire m.partner_first at.confirms
  pub returns : 2 ≤ at.sent → p.confirmed_time_stamp ≡ stamp at.returns
  pub lately : 2 ≤ at.sent → l.clock ≤ at.returns + 6000

-- what comes to an end from another, with where that stood
abbrev pub PdusRise : LinkState → LinkState → Stand → List Pdu → Stand → Type 0
PdusRise l m low [] high = NoneFalls low high
PdusRise l m low (p ∷ ps) high = (at : Stand) × NoneFalls low at × IsSaidAt l m at p × PdusRise l m at ps high

pdus_low : (l m : LinkState) (lower low high : Stand) (ps : List Pdu) → NoneFalls lower low → PdusRise l m low ps high → PdusRise l m lower ps high
pdus_low l m lower low high [] below rises = none_then lower low high below rises
pdus_low l m lower low high (p ∷ ps) below (at, up, said, more) = (at, none_then lower low at below up, said, more)

rises_drop : (Q : Sent → Stand → Type 0) (n : ℕ) (low high : Stand) (ds : List Sent) → Rises Q low ds high → (mid : Stand) × Rises Q mid (drop n ds) high
rises_drop Q zero low high ds rises = (low, rises)
rises_drop Q (suc n) low high [] rises = (low, rises)
rises_drop Q (suc n) low high (d ∷ ds) (at, up, q, more) = rises_drop Q n at high ds more

-- datagrams of this end that come, as they are read
module _ (names : Names) (w : Speaker) (l m : LinkState) (first : m.own_first ≡ w.first) (partner_first : m.partner_first ≡ w.partner_first) (clock : m.clock ≡ w.clock / 1000) (partner_clock : l.clock ≡ w.partner_clock / 1000) where
  pub said : (sent_at : ℕ) (at : Stand) (p : Pdu) → w.time + 10000 ≤ sent_at + lifetime → sent_at ≤ w.time → IsToldAt w sent_at at p → IsSaidAt l m at p
  said sent_at at p in_time past t = record {
    some = t.some;
    number = t.number ∙ ap (λ (f : ℕ). wire f (at.sent - 1)) (sym first);
    stamped = t.stamped;
    before = let r = t.was_read.before in omega (arith, r, clock);
    recent = let r = t.was_read.most in omega (arith, r, in_time, clock);
    confirms = λ more. t.confirms more ∙ ap (λ (f : ℕ). wire f at.confirms) (sym partner_first);
    returns = t.returns;
    lately = λ more. let r = t.recent more in omega (arith, r, in_time, partner_clock);
  }

  pub read_rise : (low high : Stand) (ds : List Sent) (ps : List Pdu)
      → Each (λ d. d.sender ≡ w.who → can_come (w.time + 10000) d ≡ true → (w.connection ≡ Some d.connection) × (w.time + 10000 ≤ d.at + lifetime) × (d.at ≤ w.time)) ds
      → Rises (IsOf names w) low ds high → AreRead names.key (bytes_from w.who (arriving (w.time + 10000) ds)) ps → PdusRise l m low ps high
  read_rise low high [] [] each rises are = rises
  read_rise low high [] (p ∷ ps) each rises are = absurd are
  read_rise low high (d ∷ ds) ps each (at, up, q, more) are = by_coming (λ qs rest. read_rise at high ds qs each.1 more rest) (can_come (w.time + 10000) d) refl are
    where
      Others : Type 0
      Others = (qs : List Pdu) → AreRead names.key (bytes_from w.who (arriving (w.time + 10000) ds)) qs → PdusRise l m at qs high

      taken : Others → (qs : List Pdu) → d.sender ≡ w.who → can_come (w.time + 10000) d ≡ true → AreRead names.key (d.bytes ∷ bytes_from w.who (arriving (w.time + 10000) ds)) qs
          → PdusRise l m low qs high
      taken others [] same can rest = absurd rest
      taken others (p ∷ qs) same can rest = let known = each.0 same can in let soon = known.1 in let past = known.2 in
          (at, up, said d.at at p soon past (q same known.0 (omega (arith, soon)) p rest.0), others qs rest.1)

      by_sender : Others → (one other : Role) → one ≡ w.who → d.sender ≡ other → can_come (w.time + 10000) d ≡ true
          → AreRead names.key (chosen one other d.bytes (bytes_from w.who (arriving (w.time + 10000) ds))) ps → PdusRise l m low ps high
      by_sender others Role.Client Role.Client e f can rest = taken others ps (f ∙ e) can rest
      by_sender others Role.Server Role.Server e f can rest = taken others ps (f ∙ e) can rest
      by_sender others Role.Client Role.Server e f can rest = pdus_low l m low at high ps up (others ps rest)
      by_sender others Role.Server Role.Client e f can rest = pdus_low l m low at high ps up (others ps rest)

      by_coming : Others → (b : Bool) → can_come (w.time + 10000) d ≡ b
          → AreRead names.key (bytes_from w.who (if b then d ∷ arriving (w.time + 10000) ds else arriving (w.time + 10000) ds)) ps → PdusRise l m low ps high
      by_coming others false e rest = pdus_low l m low at high ps up (others ps rest)
      by_coming others true e rest = by_sender others w.who d.sender refl refl e rest

-- ---- two ends and what comes to them

-- the reading whose stamp an end keeps of its partner
pub record KeepsOf (l m : LinkState) (kept : ℕ) : Type 0 where
  pub kept_is : l.partner_stamp ≡ stamp kept
  pub before : kept ≤ m.clock
  pub recent : m.clock ≤ kept + 4000

pub keeps_of : (l k : LinkState) (clock partner_clock kept : ℕ) → l.clock ≡ clock / 1000 → k.clock ≡ partner_clock / 1000 → l.clock < l.own_stamp + 1800
    → Keeps l clock partner_clock kept → KeepsOf l k kept
keeps_of l k clock partner_clock kept at partner_at young keeps = record {
  kept_is = keeps.kept_is;
  before = let b = keeps.before in omega (arith, b, partner_at);
  recent = let y = keeps.lately in omega (arith, y, young, at, partner_at);
}

-- what both have sent and comes to the other doesn't fall
pub record Climbs (p : Pair) : Type 0 where
  pub client_kept : ℕ
  pub server_kept : ℕ
  pub client_keeps : is_asking p.client ≡ false → KeepsOf p.client p.server client_kept
  pub server_keeps : KeepsOf p.server p.client server_kept
  pub client_low : Stand
  pub server_low : Stand
  pub to_client : PdusRise p.client p.server server_low p.to_client (stands p.server server_kept)
  pub to_server : PdusRise p.server p.client client_low p.to_server (stands p.client client_kept)

module _ (names : Names) (f : Flow) (p : Pair) (m : Mirrors names f p) (ordered : Ordered names f.ends) (client_in : is_open f.ends.client.link.phase ≡ true) (server_in : is_open f.ends.server.link.phase ≡ true) (rising : Rising names f.ends) where
  abbrev timely : Timely names f.ends
  timely = m.timely

  abbrev times : Times
  times = times_of f.ends timely.of_client timely.of_server timely.newest

  abbrev flying : List Sent
  flying = drop f.passed f.ends.sent

  flights : Each (InFlight names times) flying
  flights = each_drop (InFlight names times) f.passed f.ends.sent timely.datagrams

  client_way : (mid : Stand) × PdusRise f.ends.client.link f.ends.server.link mid p.to_client (stands f.ends.server.link rising.server_kept)
  client_way =
      let from = rises_drop (IsOf names (the_server f.ends rising.client_kept)) f.passed nothing_sent (stands f.ends.server.link rising.server_kept) f.ends.sent rising.of_server
      in (
        from.0,
        read_rise names (the_server f.ends rising.client_kept) f.ends.client.link f.ends.server.link refl refl timely.server.clock timely.client.clock from.0
            (stands f.ends.server.link rising.server_kept) flying p.to_client
            (each_map (InFlight names times) _
            (λ d flies sender can. let newest = in_newest names f p m ordered d flies can in
            (timely.ends_timed.server.in_newest (is_inside f.ends.server.link server_in) ∙ ap Some (sym newest.0), newest.1, flies.known.sent_before)) flying flights)
            from.1 m.to_client,
      )

  server_way : (mid : Stand) × PdusRise f.ends.server.link f.ends.client.link mid p.to_server (stands f.ends.client.link rising.client_kept)
  server_way =
      let from = rises_drop (IsOf names (the_client f.ends rising.server_kept)) f.passed nothing_sent (stands f.ends.client.link rising.client_kept) f.ends.sent rising.of_client
      in (
        from.0,
        read_rise names (the_client f.ends rising.server_kept) f.ends.server.link f.ends.client.link refl refl timely.client.clock timely.server.clock from.0
            (stands f.ends.client.link rising.client_kept) flying p.to_server
            (each_map (InFlight names times) _
            (λ d flies sender can. let newest = in_newest names f p m ordered d flies can in
            (timely.ends_timed.client.in_newest (is_inside f.ends.client.link client_in) ∙ ap Some (sym newest.0), newest.1, flies.known.sent_before)) flying flights)
            from.1 m.to_server,
      )

  climbs_by : (c s : LinkState) → f.ends.client.link ≡ c → f.ends.server.link ≡ s → (pc ps : List Pdu) → p.to_client ≡ pc → p.to_server ≡ ps
      → Climbs (record { client = c; server = s; to_client = pc; to_server = ps })
  climbs_by c s e g pc ps h i =
      subst (λ (x : LinkState). Climbs (record { client = x; server = s; to_client = pc; to_server = ps })) e
      (subst (λ (y : LinkState). Climbs (record { client = f.ends.client.link; server = y; to_client = pc; to_server = ps })) g
      (subst (λ (qs : List Pdu). Climbs (record { client = f.ends.client.link; server = f.ends.server.link; to_client = qs; to_server = ps })) h
      (subst (λ (qs : List Pdu). Climbs (record { client = f.ends.client.link; server = f.ends.server.link; to_client = p.to_client; to_server = qs })) i (record {
        client_kept = rising.client_kept;
        server_kept = rising.server_kept;
        client_keeps = λ joined. keeps_of f.ends.client.link f.ends.server.link f.ends.client.clock f.ends.server.clock rising.client_kept timely.client.clock timely.server.clock
            (young_client names f p m ordered client_in).young (rising.client_keeps joined);
        server_keeps = keeps_of f.ends.server.link f.ends.client.link f.ends.server.clock f.ends.client.clock rising.server_kept timely.server.clock timely.client.clock
            (young_server names f p m ordered server_in).young rising.server_keeps;
        client_low = server_way.0;
        server_low = client_way.0;
        to_client = client_way.1;
        to_server = server_way.1;
      }))))

  pub climbs : Climbs p
  climbs = climbs_by p.client p.server m.client m.server p.to_client p.to_server refl refl

-- ---- a chain

-- a PDU that isn't an end's first leaves it at two or more
second_at : (l m : LinkState) (n end : ℕ) (p : Pdu) (ps : List Pdu) (at high : Stand) → 1 ≤ n → end < 2 ^ 31 → high.sent ≡ end → Row (IsNumbered (voice_of m)) n (p ∷ ps) end
    → p.sequence_number ≡ wire m.own_first (at.sent - 1) → PdusRise l m at ps high → 2 ≤ at.sent
second_at l m n end p ps at high some fits same row number more = omega (arith, at_is, some)
  where
    ends_at : (low : Stand) (qs : List Pdu) → PdusRise l m low qs high → low.sent ≤ high.sent
    ends_at low [] rises = rises.0
    ends_at low (q ∷ qs) (there, going, saying, others) = let e = ends_at there qs others in omega (arith, e, going.0)

    most : n + 1 ≤ end
    most = row_most (IsNumbered (voice_of m)) (n + 1) end ps row.1

    at_is : at.sent - 1 ≡ n
    at_is = wire_once m.own_first (at.sent - 1) n (let e = ends_at at ps more in omega (arith, e, same, fits)) (omega (arith, most, fits)) (sym number ∙ row.0.number)

-- PDUs whose numbers go on from some number on, and which confirm and return no less and less
pub chain_of : (l m : LinkState) (n end : ℕ) (ps : List Pdu) (low high : Stand) → 1 ≤ n → end < 2 ^ 31 → high.sent ≡ end → Row (IsNumbered (voice_of m)) n ps end → PdusRise l m low ps high
    → Chain (voice_of m) n low.confirms low.returns ps end high.confirms high.returns
chain_of l m n end [] low high some fits same row rises = (row, rises.2, rises.3)
chain_of l m n end (p ∷ ps) low high some fits same row (at, up, said, more) = (
  at.confirms,
  at.returns,
  up.2,
  up.3,
  record { numbered = row.0; confirms = said.confirms second; returns = said.returns second },
  chain_of l m (n + 1) end ps at high (omega (arith, some)) fits same row.1 more,
)
  where
    second : 2 ≤ at.sent
    second = second_at l m n end p ps at high some fits same row said.number more

-- a chain of lately: it begins at a reading that was returned not long ago
pub record Lately (l m : LinkState) (n end confirmed returned : ℕ) (ps : List Pdu) : Type 0 where
  pub count : ℕ
  pub reading : ℕ
  pub chain : Chain (voice_of m) n count reading ps end confirmed returned
  pub recent : l.clock ≤ reading + 6000

pub lately_of : (l m : LinkState) (n end kept : ℕ) (ps : List Pdu) (low : Stand) → 1 ≤ n → end < 2 ^ 31 → m.sent ≡ end → is_asking m ≡ false → l.clock ≤ kept + 6000
    → Row (IsNumbered (voice_of m)) n ps end → PdusRise l m low ps (stands m kept)
    → Lately l m n end (m.expected - 1) kept ps
lately_of l m n end kept [] low some fits same joined recent row rises = record { count = m.expected - 1; reading = kept; chain = (row, omega arith, omega arith); recent = recent }
lately_of l m n end kept (p ∷ ps) low some fits same joined recent row (at, up, said, more) = record {
  count = at.confirms;
  reading = at.returns;
  chain = subst (λ (c : ℕ). Chain (voice_of m) n at.confirms at.returns (p ∷ ps) end c kept) (chosen_by (is_asking m) joined)
      (chain_of l m n end (p ∷ ps) at (stands m kept) some fits same row (at, none_falls at, said, more));
  recent = said.lately (second_at l m n end p ps at (stands m kept) some fits same row said.number more);
}
  where
    chosen_by : (b : Bool) → b ≡ false → (if b then 0 else m.expected - 1) ≡ m.expected - 1
    chosen_by true e = cc
    chosen_by false e = refl
