-- Two ends that have joined a connection and stay in it: each comes to take what the other says.
use Rattle.rasta_core_recovery.proofs.Words.Basics.{◌≡◌, ℕ, ◌∙◌, ◌+◌, ◌-◌, ◌^◌, ◌≤◌, ◌<◌, ◌⊎◌, inl, inr, Bool, true, false, List, [], refl, sym, ap, subst, arith}
use Rattle.rasta_core_recovery.proofs.Words.Links.{stamp, LinkState, is_open, is_up, Step, Role, Identity, Pdu, Each, Names, identity_of, partner_of}
use Rattle.rasta_core_recovery.proofs.Lemmas.Rounds.Links.{Pair, end_round, pair_round}
use Rattle.rasta_core_recovery.proofs.Lemmas.ComingUp.Healthy.{beats, waits}
use Rattle.rasta_core_recovery.proofs.Lemmas.Rounds.Calls.{at_reading}
use Rattle.rasta_core_recovery.proofs.Lemmas.Rounds.Words.{voice_of, Chain, chain_ends}
use Rattle.rasta_core_recovery.proofs.Lemmas.Rounds.Course.{Joined}
use Rattle.rasta_core_recovery.proofs.Lemmas.ComingUp.TunedEnds.{IsPlainPdu, not_before, Shut, far_off, outdated, missed, stuck, nothing, unheard, Round, Bounds, Ghost, Tuned, HasHeard, HasWaited, Mode, Hearing}
use Rattle.rasta_core_recovery.proofs.Lemmas.Rounds.Turn.{Either, gone, so, Notes, Heeds, heeds_of, Turn, EndMode, turns}

-- a tuned end takes what is under way to it, and has heard the last but that; one that isn't has heard nothing that was
-- said since a reading of its partner's clock, which therefore knows no younger stamp of its own
abbrev pub WayMode : Bool → ℕ → ℕ → LinkState → LinkState → ℕ → ℕ → ℕ → List Pdu → Type 0
WayMode true start kept l m number count reading ps = Tuned l number count reading × (ps ≡ [] → m.sent_at ≤ kept)
WayMode false start kept l m number count reading ps = (kept ≤ start) × (m.own_stamp ≤ start)

-- One direction between two ends: what one has of its partner and what is under way to it, since two readings of their clocks.
pub record Way (partner_start own_start : ℕ) (tuned : Bool) (kept other_kept : ℕ) (l m : LinkState) (ps : List Pdu) : Type 0 where
  pub is : Joined l.clock l
  pub first : l.partner_first ≡ m.own_first
  pub some : 1 ≤ l.expected
  pub most : l.expected ≤ m.sent
  pub kept_is : l.partner_stamp ≡ stamp kept
  pub before : kept ≤ m.clock
  pub low : partner_start ≤ kept + 5000
  pub sent_before : m.sent_at ≤ m.clock
  pub number : ℕ
  pub count : ℕ
  pub reading : ℕ
  pub chain : Chain (voice_of m) number count reading ps m.sent (m.expected - 1) other_kept
  pub since : own_start ≤ reading + 6000
  pub mode : WayMode tuned partner_start kept l m number count reading ps
  pub later : partner_start ≤ m.clock
  -- a tuned end has heard something that was said since that reading; one that isn't has missed nothing yet that it expects, or
  -- more, and knows an own stamp of before that reading
  pub young : tuned ≡ true → partner_start ≤ kept
  pub deaf : tuned ≡ false → (l.expected ≤ number) × (l.own_stamp ≤ own_start)

pub record Are (names : Names) (who : Role) (l m : LinkState) : Type 0 where
  pub own : l.identity ≡ identity_of who names
  pub other : m.identity ≡ identity_of (partner_of who) names

abbrev pub round_of : Bool → ℕ → ℕ → LinkState → LinkState → List Pdu → ℕ → ℕ → ℕ → Round
round_of tuned kept other_kept l m ps n c r = record {
  now = l.clock + 10;
  said_at = m.clock;
  end = m.sent;
  confirmed = m.expected - 1;
  returned = other_kept;
  voice = voice_of m;
  kept = kept;
  own = l.own_stamp;
  tuned = tuned;
  before = l;
  number = n;
  count = c;
  reading = r;
  pdus = ps;
}

names_receiver : (names : Names) (who : Role) → (identity_of (partner_of who) names).partner ≡ (identity_of who names).own
names_receiver names Role.Client = refl
names_receiver names Role.Server = refl

names_sender : (names : Names) (who : Role) → (identity_of (partner_of who) names).own ≡ (identity_of who names).partner
names_sender names Role.Client = refl
names_sender names Role.Server = refl

module _ (names : Names) (who : Role) (start own_start : ℕ) (tuned other_tuned : Bool) (kept other_kept : ℕ) (l m : LinkState) (ps qs : List Pdu)
    (are : Are names who l m) (there : Way start own_start tuned kept other_kept l m ps) (back : Way own_start start other_tuned other_kept kept m l qs)
    (fits : m.sent < 2 ^ 31) (short : l.clock ≤ own_start + 100000) where
  abbrev pub x : Round
  x = round_of tuned kept other_kept l m ps there.number there.count there.reading

  level_of : (b : Bool) → tuned ≡ b → WayMode b start kept l m there.number there.count there.reading ps → l.expected ≤ there.number
  level_of true e mode = omega (arith, mode.0.expected)
  level_of false e mode = (there.deaf e).0

  shut_at : (k : LinkState) → k.expected ≡ l.expected → k.own_stamp ≡ l.own_stamp → k.confirmed ≡ l.confirmed → k.phase ≡ l.phase → (n : ℕ) (qs : List Pdu) → Shut x l n qs → Shut x k n qs
  shut_at k e o c f n qs (far_off u) = far_off (omega (arith, e, u))
  shut_at k e o c f n qs (outdated (inl u)) = outdated (inl (omega (arith, o, u)))
  shut_at k e o c f n qs (outdated (inr u)) = outdated (inr (omega (arith, c, u)))
  shut_at k e o c f n qs (missed u none) = missed (omega (arith, e, u)) none
  shut_at k e o c f n qs (stuck u none) = stuck (ap waits f ∙ u) none
  shut_at k e o c f n qs (nothing u) = nothing u

  pub bounds : Bounds x
  bounds = record { level = level_of tuned refl there.mode; fits = fits; old = omega (arith, back.before); stamped = refl; kept = there.before }

  abbrev pub ghost_now : Ghost
  ghost_now = record { kept = kept; tuned = tuned }

  start_mode : (b : Bool) → tuned ≡ b → WayMode b start kept l m there.number there.count there.reading ps → Mode x b kept (at_reading (l.clock + 10) l) there.number there.count there.reading ps
  start_mode true e (t, recent) = (record { reading = t.reading; expected = t.expected; confirmed = t.confirmed; own = t.own }, inr (refl, (refl, e, refl)))
  start_mode false e m = (refl, refl)

  pub hearing_now : l.clock + 10 < l.own_stamp + 1800 → Hearing x ghost_now ps (at_reading (l.clock + 10) l)
  hearing_now young = record {
    is = record { clock = refl; connected = there.is.connected; joined = there.is.joined; young = young; own = omega (arith, there.is.own) };
    first = sym there.first;
    partner_first = back.first;
    receiver = ap (λ (i : Identity). i.partner) are.other ∙ names_receiver names who ∙ sym (ap (λ (i : Identity). i.own) are.own);
    sender = ap (λ (i : Identity). i.own) are.other ∙ names_sender names who ∙ sym (ap (λ (i : Identity). i.partner) are.own);
    some = there.some;
    most = there.most;
    kept_is = there.kept_is;
    kept_before = there.before;
    since = omega arith;
    counts = omega (arith, back.some, back.most);
    number = there.number;
    count = there.count;
    reading = there.reading;
    chain = there.chain;
    low = omega (arith, there.since, short);
    mode = start_mode tuned refl there.mode;
    plain = λ e. e;
    from_number = omega arith;
    from_count = omega arith;
    from_reading = omega arith;
    deaf = λ e. record { expected = refl; confirmed = refl; phase = inl refl; reached = unheard refl };
    outdated_on = λ f o. (f, o, refl);
    shut = λ s. (s.0, shut_at (at_reading (l.clock + 10) l) refl refl refl refl there.number ps s.1);
  }

  pub hearing_number : (young : l.clock + 10 < l.own_stamp + 1800) → (hearing_now young).number ≡ there.number
  unfolding hearing_now
  hearing_number young = refl

  -- what the round makes of this end, where it stays
  pub turn : is_open (end_round (l.clock + 10) ps l).link.phase ≡ true → Turn x bounds tuned l (end_round (l.clock + 10) ps l)
  turn is_in = choose (turns x bounds ghost_now l refl refl there.is refl hearing_now)
    where
      choose : Either (l.clock + 10) (end_round (l.clock + 10) ps l).link (Turn x bounds tuned l (end_round (l.clock + 10) ps l)) → Turn x bounds tuned l (end_round (l.clock + 10) ps l)
      choose (gone left) = absurd (cc (left.is_out, is_in))
      choose (so t) = t

-- the direction after a round, from the rounds of both its ends
unfoldable pub way_goes : (start own_start : ℕ) (tuned other_tuned : Bool) (kept other_kept : ℕ) (l m : LinkState) (ps qs : List Pdu) (s r : Step)
    → (there : Way start own_start tuned kept other_kept l m ps) → (back : Way own_start start other_tuned other_kept kept m l qs)
    → (b : Bounds (round_of tuned kept other_kept l m ps there.number there.count there.reading)) → (c : Bounds (round_of other_tuned other_kept kept m l qs back.number back.count back.reading))
    → (t : Heeds (round_of tuned kept other_kept l m ps there.number there.count there.reading) b tuned l s) → (u : Heeds (round_of other_tuned other_kept kept m l qs back.number back.count back.reading) c other_tuned m r)
    → Way start own_start t.then_tuned t.says.kept u.says.kept s.link r.link r.pdus
way_goes start own_start tuned other_tuned kept other_kept l m ps qs s r there back b c t u = record {
  is = record { clock = refl; connected = t.says.is.connected; joined = t.says.is.joined; young = omega (arith, t.says.is.young, t.says.is.clock); own = omega (arith, t.says.is.own, t.says.is.clock) };
  first = t.says.partner_first ∙ there.first ∙ sym u.says.own_first;
  some = t.says.some;
  most = omega (arith, t.says.most, sent_rises);
  kept_is = t.says.kept_is;
  before = omega (arith, t.says.kept_before, u.says.is.clock);
  low = omega (arith, there.low, t.says.since);
  sent_before = either u.says.sent_at;
  number = m.sent;
  count = m.expected - 1;
  reading = other_kept;
  chain = u.says.chain;
  since = let b = back.low in omega (arith, b);
  mode = choose t.then_tuned refl t.mode;
  later = omega (arith, there.later, u.says.is.clock);
  young = λ e. young_then t.then_tuned e t.mode;
  deaf = λ e. (omega (arith, t.still e, there.most), own_then t.then_tuned e t.mode refl);
}
  where
    sent_rises : m.sent ≤ r.link.sent
    sent_rises = (chain_ends (voice_of r.link) m.sent (m.expected - 1) other_kept r.link.sent (r.link.expected - 1) u.says.kept r.pdus u.says.chain).0

    either : (r.link.sent_at ≡ m.sent_at) ⊎ (r.link.sent_at ≡ m.clock + 10) → r.link.sent_at ≤ r.link.clock
    either (inl e) = omega (arith, e, there.sent_before, u.says.is.clock)
    either (inr e) = omega (arith, e, u.says.is.clock)

    recent : HasHeard (round_of tuned kept other_kept l m ps there.number there.count there.reading) t.says.kept s.link ⊎ ((ps ≡ []) × HasWaited (round_of tuned kept other_kept l m ps there.number there.count there.reading) t.says.kept s.link) → r.pdus ≡ [] → r.link.sent_at ≤ t.says.kept
    recent (inl e) none = omega (arith, e.0, u.says.spoken none, there.sent_before)
    recent (inr (e, w)) none = omega (arith, w.0, u.says.spoken none, before w.1 there.mode e)
      where
        before : tuned ≡ true → WayMode tuned start kept l m there.number there.count there.reading ps → ps ≡ [] → m.sent_at ≤ kept
        before g mode e = (subst (λ (y : Bool). WayMode y start kept l m there.number there.count there.reading ps) g mode).1 e

    young_then : (y : Bool) → y ≡ true → EndMode (round_of tuned kept other_kept l m ps there.number there.count there.reading) b y t.says.kept s.link → start ≤ t.says.kept
    young_then true e (v, inl f) = omega (arith, f.0, there.later)
    young_then true e (v, inr (f, w)) = omega (arith, w.0, there.young w.1)
    young_then false e mode = absurd (cc e)

    own_then : (y : Bool) → t.then_tuned ≡ false → EndMode (round_of tuned kept other_kept l m ps there.number there.count there.reading) b y t.says.kept s.link → y ≡ t.then_tuned → s.link.own_stamp ≤ own_start
    own_then true e mode same = absurd (cc (e, same))
    own_then false e mode same = omega (arith, mode.1, (there.deaf (not_before t.then_tuned tuned e t.keeps)).1)

    was_deaf : (z : Bool) → z ≡ false → WayMode z start kept l m there.number there.count there.reading ps → (kept ≤ start) × (m.own_stamp ≤ start)
    was_deaf true e mode = absurd (cc e)
    was_deaf false e mode = mode

    own_old : (z : Bool) → EndMode (round_of other_tuned other_kept kept m l qs back.number back.count back.reading) c z u.says.kept r.link → (kept ≤ start) × (m.own_stamp ≤ start) → r.link.own_stamp ≤ start
    own_old true (v, how) h = omega (arith, v.own, h.0)
    own_old false (e, f) h = omega (arith, f, h.1)

    choose : (y : Bool) → t.then_tuned ≡ y → EndMode (round_of tuned kept other_kept l m ps there.number there.count there.reading) b y t.says.kept s.link → WayMode y start t.says.kept s.link r.link m.sent (m.expected - 1) other_kept r.pdus
    choose true same (v, how) = (v, recent how)
    choose false same (e, f) = let deaf = was_deaf tuned (not_before t.then_tuned tuned same t.keeps) there.mode in (omega (arith, e, deaf.0), own_old u.then_tuned u.mode deaf)

-- ---- both directions

pub record Talk (names : Names) (of_client of_server : ℕ) (client_tuned server_tuned : Bool) (p : Pair) : Type 0 where
  pub client : p.client.identity ≡ identity_of Role.Client names
  pub server : p.server.identity ≡ identity_of Role.Server names
  pub client_kept : ℕ
  pub server_kept : ℕ
  pub to_client : Way of_server of_client client_tuned client_kept server_kept p.client p.server p.to_client
  pub to_server : Way of_client of_server server_tuned server_kept client_kept p.server p.client p.to_server

-- the rounds of both
abbrev pub client_round : (names : Names) (of_client of_server : ℕ) (client_tuned server_tuned : Bool) (p : Pair) → Talk names of_client of_server client_tuned server_tuned p → Round
client_round names of_client of_server client_tuned server_tuned p talk =
    round_of client_tuned talk.client_kept talk.server_kept p.client p.server p.to_client talk.to_client.number talk.to_client.count talk.to_client.reading

abbrev pub server_round : (names : Names) (of_client of_server : ℕ) (client_tuned server_tuned : Bool) (p : Pair) → Talk names of_client of_server client_tuned server_tuned p → Round
server_round names of_client of_server client_tuned server_tuned p talk =
    round_of server_tuned talk.server_kept talk.client_kept p.server p.client p.to_server talk.to_server.number talk.to_server.count talk.to_server.reading

-- What a round makes of both, which leads from one pair to another: a tuned end says nothing that asks, and it has heard its partner
-- lately, where this wasn't silent for long.
pub record Goes (names : Names) (of_client of_server : ℕ) (client_tuned server_tuned : Bool) (p q : Pair) (before : Talk names of_client of_server client_tuned server_tuned p) : Type 0 where
  pub then_client : Bool
  pub then_server : Bool
  pub client_keeps : client_tuned ≡ true → then_client ≡ true
  pub server_keeps : server_tuned ≡ true → then_server ≡ true
  pub talk : Talk names of_client of_server then_client then_server q
  pub client_plain : client_tuned ≡ true → Each IsPlainPdu q.to_server
  pub server_plain : server_tuned ≡ true → Each IsPlainPdu q.to_client
  pub client_calm : is_up q.client.phase ≡ true → q.client.clock < q.client.sent_at + 300
  pub server_calm : is_up q.server.phase ≡ true → q.server.clock < q.server.sent_at + 300
  pub client_near : client_tuned ≡ true → p.server.clock < p.server.sent_at + 300 → q.server.clock ≤ talk.client_kept + 309
  pub server_near : server_tuned ≡ true → p.client.clock < p.client.sent_at + 300 → q.client.clock ≤ talk.server_kept + 309
  pub client_notes : Notes (client_round names of_client of_server client_tuned server_tuned p before) then_client (record { link = q.client; pdus = q.to_server })
  pub server_notes : Notes (server_round names of_client of_server client_tuned server_tuned p before) then_server (record { link = q.server; pdus = q.to_client })
  pub client_still : then_client ≡ false → (talk.client_kept ≡ before.client_kept) × (q.client.own_stamp ≡ p.client.own_stamp)
  pub server_still : then_server ≡ false → (talk.server_kept ≡ before.server_kept) × (q.server.own_stamp ≡ p.server.own_stamp)
  pub client_spoken : q.to_server ≡ [] → q.client.sent_at ≡ p.client.sent_at
  pub server_spoken : q.to_client ≡ [] → q.server.sent_at ≡ p.server.sent_at
  pub client_way : (talk.to_client.number ≡ p.server.sent) × (talk.to_client.count ≡ p.server.expected - 1) × (talk.to_client.reading ≡ before.server_kept)
  pub server_way : (talk.to_server.number ≡ p.client.sent) × (talk.to_server.count ≡ p.client.expected - 1) × (talk.to_server.reading ≡ before.client_kept)
  pub client_clock : q.client.clock ≡ p.client.clock + 10
  pub server_clock : q.server.clock ≡ p.server.clock + 10

pub near_after : (start own_start : ℕ) (tuned : Bool) (kept other_kept : ℕ) (l m : LinkState) (ps : List Pdu) (s : Step) (there : Way start own_start tuned kept other_kept l m ps)
    → (b : Bounds (round_of tuned kept other_kept l m ps there.number there.count there.reading)) (t : Heeds (round_of tuned kept other_kept l m ps there.number there.count there.reading) b tuned l s)
    → tuned ≡ true → m.clock < m.sent_at + 300 → m.clock + 10 ≤ t.says.kept + 309
near_after start own_start tuned kept other_kept l m ps s there b t is calm = choose t.then_tuned (t.keeps is) t.mode
  where
    recent : (z : Bool) → z ≡ true → WayMode z start kept l m there.number there.count there.reading ps → ps ≡ [] → m.sent_at ≤ kept
    recent true e mode none = mode.1 none
    recent false e mode none = absurd (cc e)

    choose : (y : Bool) → y ≡ true → EndMode (round_of tuned kept other_kept l m ps there.number there.count there.reading) b y t.says.kept s.link → m.clock + 10 ≤ t.says.kept + 309
    choose true e (v, inl f) = omega (arith, f.0)
    choose true e (v, inr (f, w)) = omega (arith, w.0, calm, recent tuned is there.mode f)
    choose false e mode = absurd (cc e)

still : (x : Round) (b : Bounds x) (kept : ℕ) (k : LinkState) (y : Bool) → y ≡ false → EndMode x b y kept k → (kept ≡ x.kept) × (k.own_stamp ≡ x.own)
still x b kept k true e mode = absurd (cc e)
still x b kept k false e mode = mode

-- what a round makes of one of them
pub record Part (x : Round) (b : Bounds x) (tuned : Bool) (l : LinkState) (s : Step) : Type 0 where
  pub heeds : Heeds x b tuned l s
  pub plain : tuned ≡ true → Each IsPlainPdu s.pdus
  pub notes : Notes x heeds.then_tuned s

abbrev pub pair_of : Step → Step → Pair
pair_of c s = record { client = c.link; server = s.link; to_client = s.pdus; to_server = c.pdus }

-- and so of both
pub goes_by : (names : Names) (of_client of_server : ℕ) (client_tuned server_tuned : Bool) (p : Pair) (talk : Talk names of_client of_server client_tuned server_tuned p) (c s : Step)
    (bc : Bounds (client_round names of_client of_server client_tuned server_tuned p talk)) (bs : Bounds (server_round names of_client of_server client_tuned server_tuned p talk))
    → Part (client_round names of_client of_server client_tuned server_tuned p talk) bc client_tuned p.client c → Part (server_round names of_client of_server client_tuned server_tuned p talk) bs server_tuned p.server s
    → Goes names of_client of_server client_tuned server_tuned p (pair_of c s) talk
unfolding way_goes
goes_by names of_client of_server client_tuned server_tuned p talk c s bc bs t u = record {
  then_client = t.heeds.then_tuned;
  then_server = u.heeds.then_tuned;
  client_keeps = t.heeds.keeps;
  server_keeps = u.heeds.keeps;
  talk = record {
    client = t.heeds.says.identity ∙ talk.client;
    server = u.heeds.says.identity ∙ talk.server;
    client_kept = t.heeds.says.kept;
    server_kept = u.heeds.says.kept;
    to_client = way_goes of_server of_client client_tuned server_tuned talk.client_kept talk.server_kept p.client p.server p.to_client p.to_server c s talk.to_client talk.to_server bc bs t.heeds u.heeds;
    to_server = way_goes of_client of_server server_tuned client_tuned talk.server_kept talk.client_kept p.server p.client p.to_server p.to_client s c talk.to_server talk.to_client bs bc u.heeds t.heeds;
  };
  client_plain = t.plain;
  server_plain = u.plain;
  client_calm = λ e. omega (arith, t.heeds.says.calm e, t.heeds.says.is.clock);
  server_calm = λ e. omega (arith, u.heeds.says.calm e, u.heeds.says.is.clock);
  client_near = λ e f. omega (arith, near_after of_server of_client client_tuned talk.client_kept talk.server_kept p.client p.server p.to_client c talk.to_client bc t.heeds e f, u.heeds.says.is.clock);
  server_near = λ e f. omega (arith, near_after of_client of_server server_tuned talk.server_kept talk.client_kept p.server p.client p.to_server s talk.to_server bs u.heeds e f, t.heeds.says.is.clock);
  client_notes = t.notes;
  server_notes = u.notes;
  client_still = λ e. still _ bc t.heeds.says.kept c.link t.heeds.then_tuned e t.heeds.mode;
  server_still = λ e. still _ bs u.heeds.says.kept s.link u.heeds.then_tuned e u.heeds.mode;
  client_spoken = t.heeds.says.spoken;
  server_spoken = u.heeds.says.spoken;
  client_way = (refl, refl, refl);
  server_way = (refl, refl, refl);
  client_clock = t.heeds.says.is.clock;
  server_clock = u.heeds.says.is.clock;
}

-- where they are given no items, each says a heartbeat at most, if what came to it didn't ask
pub record GoesQuietly (names : Names) (of_client of_server : ℕ) (client_tuned server_tuned : Bool) (p : Pair) (before : Talk names of_client of_server client_tuned server_tuned p) : Type 0 where
  pub goes : Goes names of_client of_server client_tuned server_tuned p (pair_round p) before
  pub client_beats : client_tuned ≡ true → Each IsPlainPdu p.to_client → (b : Bool) × ((pair_round p).to_server ≡ beats b (pair_round p).client) × (b ≡ true → (pair_round p).client.sent_at ≡ (pair_round p).client.clock)
  pub server_beats : server_tuned ≡ true → Each IsPlainPdu p.to_server → (b : Bool) × ((pair_round p).to_client ≡ beats b (pair_round p).server) × (b ≡ true → (pair_round p).server.sent_at ≡ (pair_round p).server.clock)

module _ (names : Names) (of_client of_server : ℕ) (client_tuned server_tuned : Bool) (p : Pair) (talk : Talk names of_client of_server client_tuned server_tuned p) where
  abbrev pub server_bounds_of : p.client.sent < 2 ^ 31 → p.server.clock ≤ of_server + 100000 → Bounds (server_round names of_client of_server client_tuned server_tuned p talk)
  server_bounds_of client_fits server_short = bounds names Role.Server of_client of_server server_tuned client_tuned talk.server_kept talk.client_kept p.server p.client p.to_server p.to_client (record { own = talk.server; other = talk.client }) talk.to_server talk.to_client client_fits server_short

  -- what a round makes of the server where it stays, whether its client does or not
  pub server_turn : (fits : p.client.sent < 2 ^ 31) (short : p.server.clock ≤ of_server + 100000) → is_open (pair_round p).server.phase ≡ true
      → Turn (server_round names of_client of_server client_tuned server_tuned p talk) (server_bounds_of fits short) server_tuned p.server (end_round (p.server.clock + 10) p.to_server p.server)
  unfolding pair_round
  server_turn fits short server_in = turn names Role.Server of_client of_server server_tuned client_tuned talk.server_kept talk.client_kept p.server p.client p.to_server p.to_client (record { own = talk.server; other = talk.client }) talk.to_server talk.to_client fits short server_in

  pub talks_on : p.client.sent < 2 ^ 31 → p.server.sent < 2 ^ 31 → p.client.clock ≤ of_client + 100000 → p.server.clock ≤ of_server + 100000
      → is_open (pair_round p).client.phase ≡ true → is_open (pair_round p).server.phase ≡ true → GoesQuietly names of_client of_server client_tuned server_tuned p talk
  unfolding pair_round
  talks_on client_fits server_fits client_short server_short client_in server_in = record {
    goes = goes_by names of_client of_server client_tuned server_tuned p talk c s bc (server_bounds_of client_fits server_short)
        (record { heeds = heeds_of _ bc client_tuned p.client c t; plain = t.plain; notes = t.notes }) (record { heeds = heeds_of _ (server_bounds_of client_fits server_short) server_tuned p.server s u; plain = u.plain; notes = u.notes });
    client_beats = λ e f. let g = t.beating e f in (g.0, g.1, λ h. g.2 h ∙ sym t.says.is.clock);
    server_beats = λ e f. let g = u.beating e f in (g.0, g.1, λ h. g.2 h ∙ sym u.says.is.clock);
  }
    where
      c : Step
      c = end_round (p.client.clock + 10) p.to_client p.client

      s : Step
      s = end_round (p.server.clock + 10) p.to_server p.server

      bc : Bounds (client_round names of_client of_server client_tuned server_tuned p talk)
      bc = bounds names Role.Client of_server of_client client_tuned server_tuned talk.client_kept talk.server_kept p.client p.server p.to_client p.to_server (record { own = talk.client; other = talk.server }) talk.to_client talk.to_server server_fits client_short

      t : Turn (client_round names of_client of_server client_tuned server_tuned p talk) bc client_tuned p.client c
      t = turn names Role.Client of_server of_client client_tuned server_tuned talk.client_kept talk.server_kept p.client p.server p.to_client p.to_server (record { own = talk.client; other = talk.server }) talk.to_client talk.to_server server_fits client_short client_in

      u : Turn (server_round names of_client of_server client_tuned server_tuned p talk) (server_bounds_of client_fits server_short) server_tuned p.server s
      u = server_turn client_fits server_short server_in
