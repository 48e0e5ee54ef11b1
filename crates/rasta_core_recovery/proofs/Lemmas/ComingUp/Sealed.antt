-- Two ends that have joined a connection and stay in it: soon each takes what the other says, or one of them never will.
use Rattle.rasta_core_recovery.proofs.Words.Basics.{◌≡◌, ℕ, zero, suc, ◌∙◌, ◌+◌, ◌*◌, ◌-◌, ◌≤◌, ◌<◌, ◌⊎◌, inl, inr, Bool, true, false, List, [], ◌∷◌, refl, sym, ap, subst, arith}
use Rattle.rasta_core_recovery.proofs.Words.Links.{LinkState, is_open, is_up, is_asking, Role, Phase, Pdu, Each, Names}
use Rattle.rasta_core_recovery.proofs.Lemmas.Rounds.Links.{Pair}
use Rattle.rasta_core_recovery.proofs.Lemmas.ComingUp.Healthy.{waits}
use Rattle.rasta_core_recovery.proofs.Lemmas.Rounds.Words.{Voice, Chain, chain_ends}
use Rattle.rasta_core_recovery.proofs.Lemmas.ComingUp.TunedEnds.{IsPlainPdu, IsNoAnswerPdu, Round, Bounds, IsShut, Reached, unheard, waiting, off, low, Deaf, far_off, missed, stuck, nothing}
use Rattle.rasta_core_recovery.proofs.Lemmas.Rounds.Turn.{waits_up, Notes, EndMode}
use Rattle.rasta_core_recovery.proofs.Lemmas.ComingUp.Converse.{Way, Talk, client_round, server_round, Goes}
use Rattle.rasta_core_recovery.proofs.Lemmas.ComingUp.Seen.{tuned_up}

-- ---- an end that isn't tuned, and what it has heard of a partner that isn't either

-- why it takes nothing of what is said from now on, while its partner takes nothing
abbrev Closed : ℕ → LinkState → LinkState → ℕ → Type 0
Closed kept l m n = (waits l.phase ≡ true) ⊎ ((l.expected + 200 < n) ⊎ ((kept < l.own_stamp) ⊎ (m.expected - 1 < l.confirmed)))

data Ear (since kept : ℕ) (l m : LinkState) (n : ℕ) (ps : List Pdu) : Type 0 where
  silent : (ps ≡ [] → m.sent_at ≤ since) → Ear since kept l m n ps
  spoken_to : l.expected < n → Closed kept l m n → Ear since kept l m n ps

some_or_none : (v : Voice) (n c r end d q : ℕ) (ps : List Pdu) → Chain v n c r ps end d q → (ps ≡ []) ⊎ (n < end)
some_or_none v n c r end d q [] chain = inl refl
some_or_none v n c r end d q (p ∷ ps) (x, y, h, i, w, more) = inr (let t = chain_ends v (n + 1) x y end d q ps more in omega (arith, t.0))

-- a round in which neither comes to be tuned
module _ (x : Round) (k m m1 : LinkState) (since kept kept1 : ℕ) (qs rs : List Pdu) (then_tuned : Bool) (not_tuned : then_tuned ≡ false)
    (end_is : x.end ≡ m.sent) (level : x.before.expected ≤ x.number) (reading_is : x.reading ≡ kept) (count_is : x.count ≡ m.expected - 1)
    (notes : Notes x then_tuned (record { link = k; pdus = rs })) (own : k.own_stamp ≡ x.before.own_stamp) (kept_is : kept1 ≡ kept) (expects : m1.expected ≡ m.expected) where
  d : Deaf x k x.end []
  d = notes.deaf not_tuned

  hears_some : x.number < x.end → Reached x k x.end [] → ([] ≡ x.pdus → ⊥) → (k.expected < m.sent) × Closed kept1 k m1 m.sent
  hears_some lt (unheard u) some = absurd (some u)
  hears_some lt (waiting u) some = (omega (arith, d.expected, level, lt, end_is), inl u)
  hears_some lt (off u) some = (omega (arith, d.expected, level, lt, end_is), inr (inl (omega (arith, u, end_is))))
  hears_some lt (low (inl u)) some = (omega (arith, d.expected, level, lt, end_is), inr (inr (inl (omega (arith, u, reading_is, kept_is)))))
  hears_some lt (low (inr u)) some = (omega (arith, d.expected, level, lt, end_is), inr (inr (inr (omega (arith, u, count_is, expects)))))

  stays_closed : x.number ≤ x.end → x.before.expected < x.number → Closed kept x.before m x.number → (k.expected < m.sent) × Closed kept1 k m1 m.sent
  stays_closed le lt (inl u) = (omega (arith, d.expected, lt, le, end_is), inl (notes.waits_on u not_tuned).0)
  stays_closed le lt (inr (inl u)) = (omega (arith, d.expected, lt, le, end_is), inr (inl (omega (arith, u, d.expected, le, end_is))))
  stays_closed le lt (inr (inr (inl u))) = (omega (arith, d.expected, lt, le, end_is), inr (inr (inl (omega (arith, u, own, kept_is)))))
  stays_closed le lt (inr (inr (inr u))) = (omega (arith, d.expected, lt, le, end_is), inr (inr (inr (omega (arith, u, d.confirmed, expects)))))

  ear_heard : x.number ≤ x.end → (([] ≡ x.pdus) → x.number ≡ x.end) → (x.number < x.end) ⊎ ((x.before.expected < x.number) × Closed kept x.before m x.number) → (k.expected < m.sent) × Closed kept1 k m1 m.sent
  ear_heard le ends (inl lt) = hears_some lt d.reached (λ u. let e = ends u in omega (arith, e, lt))
  ear_heard le ends (inr c) = stays_closed le c.0 c.1

  ear_on : x.number ≤ x.end → (x.pdus ≡ []) ⊎ (x.number < x.end) → (([] ≡ x.pdus) → x.number ≡ x.end) → (qs ≡ [] → m1.sent_at ≡ m.sent_at) → Ear since kept x.before m x.number x.pdus → Ear since kept1 k m1 m.sent qs
  ear_on le (inl none) ends said (silent f) = silent (λ q. let a = f none in let b = said q in omega (arith, a, b))
  ear_on le (inr lt) ends said (silent f) = let h = ear_heard le ends (inl lt) in spoken_to h.0 h.1
  ear_on le some ends said (spoken_to lt c) = let h = ear_heard le ends (inr (lt, c)) in spoken_to h.0 h.1

none_ends : (v : Voice) (n c r end d q : ℕ) (ps : List Pdu) → Chain v n c r ps end d q → [] ≡ ps → n ≡ end
none_ends v n c r end d q [] chain e = chain.0
none_ends v n c r end d q (p ∷ ps) chain e = absurd (cc e)

-- an end that isn't tuned
way_old : (start own_start : ℕ) (tuned : Bool) (kept other_kept : ℕ) (l m : LinkState) (ps : List Pdu) → Way start own_start tuned kept other_kept l m ps → tuned ≡ false → (kept ≤ start) × (m.own_stamp ≤ start)
way_old start own_start false kept other_kept l m ps w e = w.mode
way_old start own_start true kept other_kept l m ps w e = absurd (cc e)

-- a tuned end
way_level : (start own_start : ℕ) (tuned : Bool) (kept other_kept : ℕ) (l m : LinkState) (ps : List Pdu) (w : Way start own_start tuned kept other_kept l m ps) → tuned ≡ true → l.expected ≡ w.number
way_level start own_start true kept other_kept l m ps w e = w.mode.0.expected
way_level start own_start false kept other_kept l m ps w e = absurd (cc e)

way_up : (start own_start : ℕ) (tuned : Bool) (kept other_kept : ℕ) (l m : LinkState) (ps : List Pdu) (w : Way start own_start tuned kept other_kept l m ps) → tuned ≡ true → is_up l.phase ≡ true
way_up start own_start true kept other_kept l m ps w e = tuned_up start own_start kept other_kept l m ps w
way_up start own_start false kept other_kept l m ps w e = absurd (cc e)

-- a client that has joined is up
joined_up : (l : LinkState) → l.identity.role ≡ Role.Client → is_open l.phase ≡ true → is_asking l ≡ false → is_up l.phase ≡ true
joined_up l client connected joined = by l.phase refl
  where
    by : (at : Phase) → l.phase ≡ at → is_up l.phase ≡ true
    by Phase.Closed e = absurd (cc (e, connected, ap is_open e))
    by Phase.Start e = absurd (started l e client joined)
      where
        started : (k : LinkState) → k.phase ≡ Phase.Start → k.identity.role ≡ Role.Client → is_asking k ≡ false → ⊥
        started k f c not_asking = grind (arith, f, c, not_asking)
    by Phase.Up e = ap is_up e
    by Phase.RetransmissionRequested e = ap is_up e
    by Phase.RetransmissionRunning e = ap is_up e

-- ---- both, round by round

-- What a round makes of the server, whether its client stays or not.
pub record ServerAlone (names : Names) (of_client of_server : ℕ) (client_tuned server_tuned : Bool) (p q : Pair) (talk : Talk names of_client of_server client_tuned server_tuned p) : Type 0 where
  pub bounds : Bounds (server_round names of_client of_server client_tuned server_tuned p talk)
  pub then_tuned : Bool
  pub kept : ℕ
  pub mode : EndMode (server_round names of_client of_server client_tuned server_tuned p talk) bounds then_tuned kept q.server
  pub shut : IsShut (server_round names of_client of_server client_tuned server_tuned p talk) → then_tuned ≡ false

-- Pairs one after another, so many of them and one more: what each round makes of two that talk since these readings.
pub record Lasting (names : Names) (n : ℕ) (of_client of_server : ℕ) (at : ℕ → Pair) : Type 0 where
  pub goes : (k : ℕ) → k < n → (client_tuned server_tuned : Bool) (talk : Talk names of_client of_server client_tuned server_tuned (at k)) → Goes names of_client of_server client_tuned server_tuned (at k) (at (suc k)) talk
  pub alone : (client_tuned server_tuned : Bool) (talk : Talk names of_client of_server client_tuned server_tuned (at n)) → is_open (at (suc n)).server.phase ≡ true → ServerAlone names of_client of_server client_tuned server_tuned (at n) (at (suc n)) talk
  pub client_clock : (k : ℕ) → k ≤ n → (at k).client.clock ≡ (at 0).client.clock + 10 * k
  pub server_clock : (k : ℕ) → k ≤ n → (at k).server.clock ≡ (at 0).server.clock + 10 * k
  -- its partner confirmed to each no more than it sent
  pub client_counts : (at 0).client.confirmed < (at 0).client.sent
  pub server_counts : (at 0).server.confirmed < (at 0).server.sent

module _ (names : Names) (n : ℕ) (of_client of_server : ℕ) (at : ℕ → Pair) (lasting : Lasting names n of_client of_server at) where
  record Held (k : ℕ) : Type 0 where
    client_tuned : Bool
    server_tuned : Bool
    talk : Talk names of_client of_server client_tuned server_tuned (at k)

  goes : (k : ℕ) → k < n → (h : Held k) → Goes names of_client of_server h.client_tuned h.server_tuned (at k) (at (suc k)) h.talk
  goes k most h = lasting.goes k most h.client_tuned h.server_tuned h.talk

  abbrev next : (k : ℕ) → k < n → Held k → Held (suc k)
  next k most h = let g = goes k most h in record { client_tuned = g.then_client; server_tuned = g.then_server; talk = g.talk }

  -- what is under way to an end goes on in its numbers
  client_ends : (k : ℕ) (h : Held k) → h.talk.to_client.number ≤ (at k).server.sent
  client_ends k h = let w = h.talk.to_client in (chain_ends _ w.number w.count w.reading (at k).server.sent _ _ (at k).to_client w.chain).0

  server_ends : (k : ℕ) (h : Held k) → h.talk.to_server.number ≤ (at k).client.sent
  server_ends k h = let w = h.talk.to_server in (chain_ends _ w.number w.count w.reading (at k).client.sent _ _ (at k).to_server w.chain).0

  -- ---- one of them never comes to be tuned, or neither does

  data Kind (k : ℕ) (h : Held k) : Type 0 where
    client_far : h.client_tuned ≡ false → (at k).client.expected + 200 < h.talk.to_client.number → Kind k h
    client_stuck : h.client_tuned ≡ false → waits (at k).client.phase ≡ true → Each IsNoAnswerPdu (at k).to_client → Each IsPlainPdu (at k).to_server → Kind k h
    server_far : h.server_tuned ≡ false → (at k).server.expected + 200 < h.talk.to_server.number → Kind k h
    server_stuck : h.server_tuned ≡ false → waits (at k).server.phase ≡ true → Each IsNoAnswerPdu (at k).to_server → Each IsPlainPdu (at k).to_client → Kind k h
    both_missed : h.client_tuned ≡ false → h.server_tuned ≡ false → (at k).client.expected < h.talk.to_client.number → (at k).server.expected < h.talk.to_server.number
        → Each IsNoAnswerPdu (at k).to_client → Each IsNoAnswerPdu (at k).to_server → Kind k h
    server_mute : h.client_tuned ≡ false → h.server_tuned ≡ false → (at k).to_client ≡ [] → is_up (at k).server.phase ≡ false
        → (h.talk.client_kept < (at k).server.own_stamp) ⊎ ((at k).client.expected - 1 < (at k).server.confirmed) → Kind k h

  kind_on : (k : ℕ) (most : k < n) (h : Held k) → Kind k h → Kind (suc k) (next k most h)
  kind_on k most h (client_far e f) =
      let g = goes k most h in let t = g.client_notes.shut (e, far_off f) in
      client_far t (omega (arith, (g.client_notes.deaf t).expected, g.client_way.0, client_ends k h, f))
  kind_on k most h (client_stuck e w na pl) =
      let g = goes k most h in let t = g.client_notes.shut (e, stuck w na) in let y = g.client_notes.waits_on w t in
      client_stuck t y.0 (g.server_notes.hush_plain pl) y.1
  kind_on k most h (server_far e f) =
      let g = goes k most h in let t = g.server_notes.shut (e, far_off f) in
      server_far t (omega (arith, (g.server_notes.deaf t).expected, g.server_way.0, server_ends k h, f))
  kind_on k most h (server_stuck e w na pl) =
      let g = goes k most h in let t = g.server_notes.shut (e, stuck w na) in let y = g.server_notes.waits_on w t in
      server_stuck t y.0 (g.client_notes.hush_plain pl) y.1
  kind_on k most h (both_missed e f a b na nb) =
      let g = goes k most h in let t = g.client_notes.shut (e, missed a na) in let u = g.server_notes.shut (f, missed b nb) in
      both_missed t u (omega (arith, (g.client_notes.deaf t).expected, g.client_way.0, client_ends k h, a)) (omega (arith, (g.server_notes.deaf u).expected, g.server_way.0, server_ends k h, b))
      (g.server_notes.hush u) (g.client_notes.hush t)
  kind_on k most h (server_mute e f none mute v) = server_mute t y.0 (g.server_notes.mute y.0 shut_up) shut_up (still v)
    where
      g : Goes names of_client of_server h.client_tuned h.server_tuned (at k) (at (suc k)) h.talk
      g = goes k most h

      t : g.then_client ≡ false
      t = g.client_notes.shut (e, nothing none)

      y : (g.then_server ≡ false) × ((at (suc k)).server.phase ≡ (at k).server.phase)
      y = g.server_notes.outdated_on f v

      shut_up : is_up (at (suc k)).server.phase ≡ false
      shut_up = ap is_up y.1 ∙ mute

      still : (h.talk.client_kept < (at k).server.own_stamp) ⊎ ((at k).client.expected - 1 < (at k).server.confirmed)
          → (g.talk.client_kept < (at (suc k)).server.own_stamp) ⊎ ((at (suc k)).client.expected - 1 < (at (suc k)).server.confirmed)
      still (inl u) = inl (omega (arith, u, (g.client_still t).0, (g.server_still y.0).1))
      still (inr u) = inr (omega (arith, u, (g.client_notes.deaf t).expected, (g.server_notes.deaf y.0).confirmed))

  -- so the server knows no own stamp that is younger than the reading at the beginning
  old_client : (k : ℕ) (h : Held k) → h.client_tuned ≡ false → (h.talk.client_kept ≤ of_server) × ((at k).server.own_stamp ≤ of_server)
  old_client k h e = way_old _ _ _ _ _ _ _ _ h.talk.to_client e

  old_server : (k : ℕ) (h : Held k) → h.server_tuned ≡ false → (at k).server.own_stamp ≤ of_server
  old_server k h e = (h.talk.to_server.deaf e).1

  is_old : (k : ℕ) (h : Held k) → Kind k h → (at k).server.own_stamp ≤ of_server
  is_old k h (client_far e f) = (old_client k h e).1
  is_old k h (client_stuck e w na pl) = (old_client k h e).1
  is_old k h (server_far e f) = old_server k h e
  is_old k h (server_stuck e w na pl) = old_server k h e
  is_old k h (both_missed e f a b na nb) = (old_client k h e).1
  is_old k h (server_mute e f none mute v) = (old_client k h e).1

  record Sealed (k : ℕ) : Type 0 where
    held : Held k
    kind : Kind k held

  sealed_to : (j k m : ℕ) → m ≡ k + j → m ≤ n → Sealed k → Sealed m
  sealed_to zero k m e le s = subst Sealed (omega (arith, e)) s
  sealed_to (suc j) k m e le s = let lt : k < n = omega (arith, e, le) in
      sealed_to j (suc k) m (omega (arith, e)) le (record { held = next k lt s.held; kind = kind_on k lt s.held s.kind })

  -- nor does it where it stays in the next round, in which its client may leave
  module _ (h : Held n) (then_in : is_open (at (suc n)).server.phase ≡ true) where
    abbrev last : Round
    last = server_round names of_client of_server h.client_tuned h.server_tuned (at n) h.talk

    alone : ServerAlone names of_client of_server h.client_tuned h.server_tuned (at n) (at (suc n)) h.talk
    alone = lasting.alone h.client_tuned h.server_tuned h.talk then_in

    then_old : (bounds : Bounds last) (tuned : Bool) (kept : ℕ) (l : LinkState) → EndMode last bounds tuned kept l → (tuned ≡ false) ⊎ (h.talk.client_kept ≤ of_server) → (at n).server.own_stamp ≤ of_server → l.own_stamp ≤ of_server
    then_old bounds false kept l m why old = omega (arith, m.1, old)
    then_old bounds true kept l (t, how) (inl e) old = absurd (cc e)
    then_old bounds true kept l (t, how) (inr e) old = omega (arith, t.own, e)

    why_old : Kind n h → (alone.then_tuned ≡ false) ⊎ (h.talk.client_kept ≤ of_server)
    why_old (client_far e f) = inr (old_client n h e).0
    why_old (client_stuck e w na pl) = inr (old_client n h e).0
    why_old (server_far e f) = inl (alone.shut (e, far_off f))
    why_old (server_stuck e w na pl) = inl (alone.shut (e, stuck w na))
    why_old (both_missed e f a b na nb) = inr (old_client n h e).0
    why_old (server_mute e f none mute v) = inr (old_client n h e).0

    server_old : Kind n h → (at (suc n)).server.own_stamp ≤ of_server
    server_old kind = then_old alone.bounds alone.then_tuned alone.kept (at (suc n)).server alone.mode (why_old kind) (is_old n h kind)

  -- ---- neither is tuned yet

  -- what is known of counts: an end that isn't tuned knows none confirmed that its partner hasn't come to expect
  record Counts (k : ℕ) (h : Held k) : Type 0 where
    client_counts : h.client_tuned ≡ false → (at k).client.confirmed < h.talk.to_server.number
    server_counts : h.server_tuned ≡ false → (at k).server.confirmed < h.talk.to_client.number

  counts_first : (most : 0 < n) (h : Held 0) → Counts 1 (next 0 most h)
  counts_first most h = let g = goes 0 most h in record {
    client_counts = λ e. omega (arith, (g.client_notes.deaf e).confirmed, g.server_way.0, lasting.client_counts);
    server_counts = λ e. omega (arith, (g.server_notes.deaf e).confirmed, g.client_way.0, lasting.server_counts);
  }

  not_then : (a b : Bool) → a ≡ false → (b ≡ true → a ≡ true) → b ≡ false
  not_then a true e f = absurd (cc (e, f refl))
  not_then a false e f = refl

  counts_on : (k : ℕ) (most : k < n) (h : Held k) → Counts k h → Counts (suc k) (next k most h)
  counts_on k most h c = let g = goes k most h in record {
    client_counts = λ e. omega (arith, (g.client_notes.deaf e).confirmed, g.server_way.0, server_ends k h, c.client_counts (not_then g.then_client h.client_tuned e g.client_keeps));
    server_counts = λ e. omega (arith, (g.server_notes.deaf e).confirmed, g.client_way.0, client_ends k h, c.server_counts (not_then g.then_server h.server_tuned e g.server_keeps));
  }

  record BothDeaf (wc ws k : ℕ) (h : Held k) : Type 0 where
    client_deaf : h.client_tuned ≡ false
    server_deaf : h.server_tuned ≡ false
    client_count : h.talk.to_client.count ≡ (at k).server.expected - 1
    client_reading : h.talk.to_client.reading ≡ h.talk.server_kept
    server_count : h.talk.to_server.count ≡ (at k).client.expected - 1
    server_reading : h.talk.to_server.reading ≡ h.talk.client_kept
    to_client : Each IsNoAnswerPdu (at k).to_client
    to_server : Each IsNoAnswerPdu (at k).to_server
    client_calm : is_up (at k).client.phase ≡ true → (at k).client.clock < (at k).client.sent_at + 300
    server_calm : is_up (at k).server.phase ≡ true → (at k).server.clock < (at k).server.sent_at + 300
    client_ear : Ear ws h.talk.server_kept (at k).client (at k).server h.talk.to_client.number (at k).to_client
    server_ear : Ear wc h.talk.client_kept (at k).server (at k).client h.talk.to_server.number (at k).to_server

  client_some : (k : ℕ) (h : Held k) → ((at k).to_client ≡ []) ⊎ (h.talk.to_client.number < (at k).server.sent)
  client_some k h = let w = h.talk.to_client in some_or_none _ w.number w.count w.reading (at k).server.sent _ _ (at k).to_client w.chain

  server_some : (k : ℕ) (h : Held k) → ((at k).to_server ≡ []) ⊎ (h.talk.to_server.number < (at k).client.sent)
  server_some k h = let w = h.talk.to_server in some_or_none _ w.number w.count w.reading (at k).client.sent _ _ (at k).to_server w.chain

  client_none : (k : ℕ) (h : Held k) → [] ≡ (at k).to_client → h.talk.to_client.number ≡ (at k).server.sent
  client_none k h e = let w = h.talk.to_client in none_ends _ w.number w.count w.reading (at k).server.sent _ _ (at k).to_client w.chain e

  server_none : (k : ℕ) (h : Held k) → [] ≡ (at k).to_server → h.talk.to_server.number ≡ (at k).client.sent
  server_none k h e = let w = h.talk.to_server in none_ends _ w.number w.count w.reading (at k).client.sent _ _ (at k).to_server w.chain e

  -- a round after which neither is tuned
  module _ (k : ℕ) (most : k < n) (h : Held k) (t : (goes k most h).then_client ≡ false) (u : (goes k most h).then_server ≡ false) where
    abbrev g : Goes names of_client of_server h.client_tuned h.server_tuned (at k) (at (suc k)) h.talk
    g = goes k most h

    was_client : h.client_tuned ≡ false
    was_client = not_then g.then_client h.client_tuned t g.client_keeps

    was_server : h.server_tuned ≡ false
    was_server = not_then g.then_server h.server_tuned u g.server_keeps

    -- so what the next round will hear returns and confirms the same as what it said last
    deaf_by : (wc ws : ℕ) → Ear ws g.talk.server_kept (at (suc k)).client (at (suc k)).server g.talk.to_client.number (at (suc k)).to_client
        → Ear wc g.talk.client_kept (at (suc k)).server (at (suc k)).client g.talk.to_server.number (at (suc k)).to_server → BothDeaf wc ws (suc k) (next k most h)
    deaf_by wc ws client_ear server_ear = record {
      client_deaf = t;
      server_deaf = u;
      client_count = omega (arith, g.client_way.1, (g.server_notes.deaf u).expected);
      client_reading = g.client_way.2 ∙ sym (g.server_still u).0;
      server_count = omega (arith, g.server_way.1, (g.client_notes.deaf t).expected);
      server_reading = g.server_way.2 ∙ sym (g.client_still t).0;
      to_client = g.server_notes.hush u;
      to_server = g.client_notes.hush t;
      client_calm = g.client_calm;
      server_calm = g.server_calm;
      client_ear = client_ear;
      server_ear = server_ear;
    }

    client_hears : (ws : ℕ) → h.talk.to_client.reading ≡ h.talk.server_kept → h.talk.to_client.count ≡ (at k).server.expected - 1
        → Ear ws h.talk.server_kept (at k).client (at k).server h.talk.to_client.number (at k).to_client
        → Ear ws g.talk.server_kept (at (suc k)).client (at (suc k)).server g.talk.to_client.number (at (suc k)).to_client
    client_hears ws reading count ear = subst (λ (m : ℕ). Ear ws g.talk.server_kept (at (suc k)).client (at (suc k)).server m (at (suc k)).to_client) (sym g.client_way.0)
        (ear_on (client_round names of_client of_server h.client_tuned h.server_tuned (at k) h.talk) (at (suc k)).client (at k).server (at (suc k)).server ws h.talk.server_kept g.talk.server_kept
        (at (suc k)).to_client (at (suc k)).to_server g.then_client t refl (h.talk.to_client.deaf was_client).0 reading count g.client_notes (g.client_still t).1 (g.server_still u).0 (g.server_notes.deaf u).expected
        (client_ends k h) (client_some k h) (client_none k h) g.server_spoken ear)

    server_hears : (wc : ℕ) → h.talk.to_server.reading ≡ h.talk.client_kept → h.talk.to_server.count ≡ (at k).client.expected - 1
        → Ear wc h.talk.client_kept (at k).server (at k).client h.talk.to_server.number (at k).to_server
        → Ear wc g.talk.client_kept (at (suc k)).server (at (suc k)).client g.talk.to_server.number (at (suc k)).to_server
    server_hears wc reading count ear = subst (λ (m : ℕ). Ear wc g.talk.client_kept (at (suc k)).server (at (suc k)).client m (at (suc k)).to_server) (sym g.server_way.0)
        (ear_on (server_round names of_client of_server h.client_tuned h.server_tuned (at k) h.talk) (at (suc k)).server (at k).client (at (suc k)).client wc h.talk.client_kept g.talk.client_kept
        (at (suc k)).to_server (at (suc k)).to_client g.then_server u refl (h.talk.to_server.deaf was_server).0 reading count g.server_notes (g.server_still u).1 (g.client_still t).0 (g.client_notes.deaf t).expected
        (server_ends k h) (server_some k h) (server_none k h) g.client_spoken ear)

    deaf_on : (wc ws : ℕ) → BothDeaf wc ws k h → BothDeaf wc ws (suc k) (next k most h)
    deaf_on wc ws b = deaf_by wc ws (client_hears ws b.client_reading b.client_count b.client_ear) (server_hears wc b.server_reading b.server_count b.server_ear)

    deaf_first : BothDeaf (at (suc k)).client.clock (at (suc k)).server.clock (suc k) (next k most h)
    deaf_first = deaf_by (at (suc k)).client.clock (at (suc k)).server.clock (silent (λ none. g.talk.to_client.sent_before)) (silent (λ none. g.talk.to_server.sent_before))

    -- each has missed something
    missed_then : ((at k).client.expected < h.talk.to_client.number) ⊎ (h.talk.to_client.number < (at k).server.sent)
        → ((at k).server.expected < h.talk.to_server.number) ⊎ (h.talk.to_server.number < (at k).client.sent) → Sealed (suc k)
    missed_then a b = record {
      held = next k most h;
      kind = both_missed t u (client_missed a) (server_missed b) (g.server_notes.hush u) (g.client_notes.hush t);
    }
      where
        client_missed : ((at k).client.expected < h.talk.to_client.number) ⊎ (h.talk.to_client.number < (at k).server.sent) → (at (suc k)).client.expected < g.talk.to_client.number
        client_missed (inl f) = omega (arith, (g.client_notes.deaf t).expected, g.client_way.0, client_ends k h, f)
        client_missed (inr f) = omega (arith, (g.client_notes.deaf t).expected, g.client_way.0, (h.talk.to_client.deaf was_client).0, f)

        server_missed : ((at k).server.expected < h.talk.to_server.number) ⊎ (h.talk.to_server.number < (at k).client.sent) → (at (suc k)).server.expected < g.talk.to_server.number
        server_missed (inl f) = omega (arith, (g.server_notes.deaf u).expected, g.server_way.0, server_ends k h, f)
        server_missed (inr f) = omega (arith, (g.server_notes.deaf u).expected, g.server_way.0, (h.talk.to_server.deaf was_server).0, f)

  data Walk (wc ws k : ℕ) : Type 0 where
    deaf_yet : (h : Held k) → Counts k h → BothDeaf wc ws k h → Walk wc ws k
    one_tuned : (h : Held k) → Counts k h → (h.client_tuned ≡ true) ⊎ (h.server_tuned ≡ true) → Walk wc ws k

  walk_on : (wc ws k : ℕ) → k < n → Walk wc ws k → Walk wc ws (suc k)
  walk_on wc ws k most (one_tuned h c (inl e)) = one_tuned (next k most h) (counts_on k most h c) (inl ((goes k most h).client_keeps e))
  walk_on wc ws k most (one_tuned h c (inr e)) = one_tuned (next k most h) (counts_on k most h c) (inr ((goes k most h).server_keeps e))
  walk_on wc ws k most (deaf_yet h c b) = choose (goes k most h).then_client (goes k most h).then_server refl refl
    where
      choose : (x y : Bool) → (goes k most h).then_client ≡ x → (goes k most h).then_server ≡ y → Walk wc ws (suc k)
      choose true y e f = one_tuned (next k most h) (counts_on k most h c) (inl e)
      choose false true e f = one_tuned (next k most h) (counts_on k most h c) (inr f)
      choose false false e f = deaf_yet (next k most h) (counts_on k most h c) (deaf_on k most h e f wc ws b)

  walk_to : (wc ws j k m : ℕ) → m ≡ k + j → m ≤ n → Walk wc ws k → Walk wc ws m
  walk_to wc ws zero k m e le w = subst (Walk wc ws) (omega (arith, e)) w
  walk_to wc ws (suc j) k m e le w = let lt : k < n = omega (arith, e, le) in walk_to wc ws j (suc k) m (omega (arith, e)) le (walk_on wc ws k lt w)

  walk_first : (most : 0 < n) → Held 0 → Walk (at 1).client.clock (at 1).server.clock 1
  walk_first most h = choose (goes 0 most h).then_client (goes 0 most h).then_server refl refl
    where
      choose : (x y : Bool) → (goes 0 most h).then_client ≡ x → (goes 0 most h).then_server ≡ y → Walk (at 1).client.clock (at 1).server.clock 1
      choose true y e f = one_tuned (next 0 most h) (counts_first most h) (inl e)
      choose false true e f = one_tuned (next 0 most h) (counts_first most h) (inr f)
      choose false false e f = deaf_yet (next 0 most h) (counts_first most h) (deaf_first 0 most h e f)

  -- ---- after 34 rounds one is tuned, or neither ever is

  server_closed : (k : ℕ) (most : k < n) (h : Held k) (t : (goes k most h).then_client ≡ false) (u : (goes k most h).then_server ≡ false) (wc ws : ℕ) → BothDeaf wc ws k h
      → (h.talk.to_server.number < (at k).client.sent) ⊎ (((at k).server.expected < h.talk.to_server.number) × Closed h.talk.client_kept (at k).server (at k).client h.talk.to_server.number)
      → ((at (suc k)).server.expected < (at k).client.sent) × Closed (goes k most h).talk.client_kept (at (suc k)).server (at (suc k)).client (at k).client.sent
  server_closed k most h t u wc ws b heard = let g = goes k most h in
      ear_heard (server_round names of_client of_server h.client_tuned h.server_tuned (at k) h.talk) (at (suc k)).server (at k).client (at (suc k)).client wc h.talk.client_kept g.talk.client_kept
      (at (suc k)).to_server (at (suc k)).to_client g.then_server u refl (h.talk.to_server.deaf b.server_deaf).0 b.server_reading b.server_count g.server_notes (g.server_still u).1 (g.client_still t).0 (g.client_notes.deaf t).expected
      (server_ends k h) (server_none k h) heard

  record OneTuned (k : ℕ) : Type 0 where
    held : Held k
    counts : Counts k held
    some : (held.client_tuned ≡ true) ⊎ (held.server_tuned ≡ true)

  one_on : (k : ℕ) → k < n → OneTuned k → OneTuned (suc k)
  one_on k most o = record { held = next k most o.held; counts = counts_on k most o.held o.counts; some = by o.some }
    where
      by : (o.held.client_tuned ≡ true) ⊎ (o.held.server_tuned ≡ true) → ((next k most o.held).client_tuned ≡ true) ⊎ ((next k most o.held).server_tuned ≡ true)
      by (inl e) = inl ((goes k most o.held).client_keeps e)
      by (inr e) = inr ((goes k most o.held).server_keeps e)

  seal_33 : 34 ≤ n → Sealed 33 → Sealed 34
  seal_33 long s = sealed_to 1 33 34 (omega arith) long s

  -- at the 33rd round the server has heard something and taken nothing
  module _ (long : 34 ≤ n) (h : Held 33) (c : Counts 33 h) (b : BothDeaf (at 1).client.clock (at 1).server.clock 33 h)
      (closed : ((at 33).server.expected < h.talk.to_server.number) × Closed h.talk.client_kept (at 33).server (at 33).client h.talk.to_server.number) where
    missing : ((at 33).client.expected < h.talk.to_client.number) ⊎ (h.talk.to_client.number < (at 33).server.sent) → Sealed 34 ⊎ OneTuned 34
    missing m = choose (goes 33 long h).then_client (goes 33 long h).then_server refl refl
      where
        choose : (x y : Bool) → (goes 33 long h).then_client ≡ x → (goes 33 long h).then_server ≡ y → Sealed 34 ⊎ OneTuned 34
        choose true y e f = inr (record { held = next 33 long h; counts = counts_on 33 long h c; some = inl e })
        choose false true e f = inr (record { held = next 33 long h; counts = counts_on 33 long h c; some = inr f })
        choose false false e f = inl (missed_then 33 long h e f m (inl closed.0))

    mute_server : (at 33).to_client ≡ [] → is_up (at 33).server.phase ≡ false → Closed h.talk.client_kept (at 33).server (at 33).client h.talk.to_server.number → Sealed 33
    mute_server none down (inl w) = absurd (cc (waits_up (at 33).server.phase w, down))
    mute_server none down (inr (inl f)) = record { held = h; kind = server_far b.server_deaf f }
    mute_server none down (inr (inr v)) = record { held = h; kind = server_mute b.client_deaf b.server_deaf none down v }

    resolve : Sealed 34 ⊎ OneTuned 34
    resolve = by b.client_ear
      where
        quiet : (at 33).to_client ≡ [] → (at 33).server.sent_at ≤ (at 1).server.clock → (x : Bool) → is_up (at 33).server.phase ≡ x → Sealed 34 ⊎ OneTuned 34
        quiet none old true e = absurd (omega (arith, b.server_calm e, old, lasting.server_clock 33 (omega (arith, long)), lasting.server_clock 1 (omega (arith, long))))
        quiet none old false e = inl (seal_33 long (mute_server none e closed.1))

        by : Ear (at 1).server.clock h.talk.server_kept (at 33).client (at 33).server h.talk.to_client.number (at 33).to_client → Sealed 34 ⊎ OneTuned 34
        by (spoken_to lt cl) = missing (inl lt)
        by (silent f) = heard (client_some 33 h)
          where
            heard : ((at 33).to_client ≡ []) ⊎ (h.talk.to_client.number < (at 33).server.sent) → Sealed 34 ⊎ OneTuned 34
            heard (inr lt) = missing (inr lt)
            heard (inl none) = quiet none (f none) (is_up (at 33).server.phase) refl

  client_up : (k : ℕ) (h : Held k) → is_up (at k).client.phase ≡ true
  client_up k h = joined_up (at k).client (ap (λ i. i.role) h.talk.client) h.talk.to_client.is.connected h.talk.to_client.is.joined

  by_34 : 34 ≤ n → Walk (at 1).client.clock (at 1).server.clock 32 → Sealed 34 ⊎ OneTuned 34
  by_34 long (one_tuned h c some) = inr (one_on 33 long (one_on 32 (omega (arith, long)) (record { held = h; counts = c; some = some })))
  by_34 long (deaf_yet h c b) = choose (goes 32 most h).then_client (goes 32 most h).then_server refl refl
    where
      most : 32 < n
      most = omega (arith, long)

      heard : Ear (at 1).client.clock h.talk.client_kept (at 32).server (at 32).client h.talk.to_server.number (at 32).to_server
          → (h.talk.to_server.number < (at 32).client.sent) ⊎ (((at 32).server.expected < h.talk.to_server.number) × Closed h.talk.client_kept (at 32).server (at 32).client h.talk.to_server.number)
      heard (spoken_to lt cl) = inr (lt, cl)
      heard (silent f) = by (server_some 32 h)
        where
          by : ((at 32).to_server ≡ []) ⊎ (h.talk.to_server.number < (at 32).client.sent)
              → (h.talk.to_server.number < (at 32).client.sent) ⊎ (((at 32).server.expected < h.talk.to_server.number) × Closed h.talk.client_kept (at 32).server (at 32).client h.talk.to_server.number)
          by (inr lt) = inl lt
          by (inl none) = absurd (omega (arith, b.client_calm (client_up 32 h), f none, lasting.client_clock 32 (omega (arith, long)), lasting.client_clock 1 (omega (arith, long))))

      choose : (x y : Bool) → (goes 32 most h).then_client ≡ x → (goes 32 most h).then_server ≡ y → Sealed 34 ⊎ OneTuned 34
      choose true y e f = inr (one_on 33 long (record { held = next 32 most h; counts = counts_on 32 most h c; some = inl e }))
      choose false true e f = inr (one_on 33 long (record { held = next 32 most h; counts = counts_on 32 most h c; some = inr f }))
      choose false false e f =
          let g = goes 32 most h in
          let cl = server_closed 32 most h e f (at 1).client.clock (at 1).server.clock b (heard b.server_ear) in
          resolve long (next 32 most h) (counts_on 32 most h c) (deaf_on 32 most h e f (at 1).client.clock (at 1).server.clock b)
          (subst (λ (m : ℕ). ((at 33).server.expected < m) × Closed g.talk.client_kept (at 33).server (at 33).client m) (sym g.server_way.0) cl)

  -- ---- where one is tuned, the other comes to be, or is shut for good

  data Done (k : ℕ) : Type 0 where
    both_up : (h : Held k) → h.client_tuned ≡ true → h.server_tuned ≡ true → Done k
    shut : Sealed k → Done k

  record Soon (most : ℕ) : Type 0 where
    round : ℕ
    soon : round ≤ most
    done : Done round

  sooner : (m most : ℕ) → m ≤ most → Soon m → Soon most
  sooner m most le s = record { round = s.round; soon = omega (arith, le, s.soon); done = s.done }

  client_both : {k : ℕ} (h : Held k) → h.client_tuned ≡ true → h.server_tuned ≡ true → Done k
  client_both h c s = both_up h c s

  server_both : {k : ℕ} (h : Held k) → h.server_tuned ≡ true → h.client_tuned ≡ true → Done k
  server_both h s c = both_up h c s

  -- ---- the client is late

  record ClientLate (k : ℕ) (h : Held k) : Type 0 where
    is_late : h.client_tuned ≡ false
    other : h.server_tuned ≡ true
    own : (at k).client.own_stamp ≤ h.talk.to_client.reading
    count : (at k).client.confirmed ≤ h.talk.to_client.count
    calm : (at k).server.clock < (at k).server.sent_at + 300

  client_late_next : (k : ℕ) (most : k < n) (h : Held k) → Counts k h → h.server_tuned ≡ true → (goes k most h).then_client ≡ false → ClientLate (suc k) (next k most h)
  client_late_next k most h c other t = record {
    is_late = t;
    other = g.server_keeps other;
    own = omega (arith, (g.client_still t).1, (h.talk.to_client.deaf was).1, h.talk.to_server.young other, g.client_way.2);
    count = omega (arith, (g.client_notes.deaf t).confirmed, g.client_way.1, way_level _ _ _ _ _ _ _ _ h.talk.to_server other, c.client_counts was);
    calm = g.server_calm (way_up _ _ _ _ _ _ _ _ g.talk.to_server (g.server_keeps other));
  }
    where
      g : Goes names of_client of_server h.client_tuned h.server_tuned (at k) (at (suc k)) h.talk
      g = goes k most h

      was : h.client_tuned ≡ false
      was = not_then g.then_client h.client_tuned t g.client_keeps

  client_asked_again : (k : ℕ) (most : k < n) (h : Held k) → h.server_tuned ≡ true → waits (at k).client.phase ≡ true → Each IsPlainPdu (at k).to_server → Soon (suc k)
  client_asked_again k most h other w plain = choose (goes k most h).then_client refl
    where
      choose : (x : Bool) → (goes k most h).then_client ≡ x → Soon (suc k)
      choose true e = record { round = suc k; soon = omega arith; done = client_both (next k most h) e ((goes k most h).server_keeps other) }
      choose false e = let g = goes k most h in let y = g.client_notes.waits_on w e in
          record { round = suc k; soon = omega arith; done = shut (record { held = next k most h; kind = client_stuck e y.0 (g.server_notes.hush_plain plain) y.1 }) }

  client_asked : (k : ℕ) (most : suc k < n) (h : Held k) → h.server_tuned ≡ true → waits (at k).client.phase ≡ true → Soon (k + 2)
  client_asked k most h other w = choose (goes k lt h).then_client refl
    where
      lt : k < n
      lt = omega (arith, most)

      choose : (x : Bool) → (goes k lt h).then_client ≡ x → Soon (k + 2)
      choose true e = record { round = suc k; soon = omega arith; done = client_both (next k lt h) e ((goes k lt h).server_keeps other) }
      choose false e = let g = goes k lt h in let y = g.client_notes.waits_on w e in
          sooner (suc (suc k)) (k + 2) (omega arith) (client_asked_again (suc k) most (next k lt h) (g.server_keeps other) y.0 y.1)

  client_late_step : (fuel k : ℕ) (room : k + fuel + 3 ≤ n) (lt : k < n) (h : Held k) → Counts k h → ClientLate k h → h.talk.to_client.number < (at k).server.sent → Soon (k + fuel + 3)
  client_late_step fuel k room lt h c l heard = choose (goes k lt h).then_client refl
    where
      choose : (x : Bool) → (goes k lt h).then_client ≡ x → Soon (k + fuel + 3)
      choose true e = record { round = suc k; soon = omega arith; done = client_both (next k lt h) e ((goes k lt h).server_keeps l.other) }
      choose false e = by d.reached
        where
          g : Goes names of_client of_server h.client_tuned h.server_tuned (at k) (at (suc k)) h.talk
          g = goes k lt h

          d : Deaf (client_round names of_client of_server h.client_tuned h.server_tuned (at k) h.talk) (at (suc k)).client (at k).server.sent []
          d = g.client_notes.deaf e

          by : Reached (client_round names of_client of_server h.client_tuned h.server_tuned (at k) h.talk) (at (suc k)).client (at k).server.sent [] → Soon (k + fuel + 3)
          by (unheard u) = absurd (omega (arith, client_none k h u, heard))
          by (waiting u) = sooner (suc k + 2) (k + fuel + 3) (omega arith) (client_asked (suc k) (omega (arith, room)) (next k lt h) (g.server_keeps l.other) u)
          by (off u) = record { round = suc k; soon = omega arith; done = shut (record { held = next k lt h; kind = client_far e (omega (arith, u, g.client_way.0)) }) }
          by (low (inl u)) = absurd (omega (arith, u, (g.client_still e).1, l.own))
          by (low (inr u)) = absurd (omega (arith, u, d.confirmed, l.count))

  client_late : (fuel k : ℕ) → k + fuel + 3 ≤ n → (since : ℕ) (h : Held k) → Counts k h → ClientLate k h → ((at k).to_client ≡ [] → (at k).server.sent_at ≤ since) → since + 300 ≤ (at k).server.clock + 10 * fuel → Soon (k + fuel + 3)
  client_late zero k room since h c l silent_is over = heard (client_some k h)
    where
      heard : ((at k).to_client ≡ []) ⊎ (h.talk.to_client.number < (at k).server.sent) → Soon (k + zero + 3)
      heard (inr some) = client_late_step zero k room (omega (arith, room)) h c l some
      heard (inl none) = absurd (omega (arith, l.calm, silent_is none, over))
  client_late (suc fuel) k room since h c l silent_is over = heard (λ h1 c1 l1 s1 o1. client_late fuel (suc k) (omega (arith, room)) since h1 c1 l1 s1 o1) (client_some k h)
    where
      Again : Type 0
      Again = (h1 : Held (suc k)) → Counts (suc k) h1 → ClientLate (suc k) h1 → ((at (suc k)).to_client ≡ [] → (at (suc k)).server.sent_at ≤ since) → since + 300 ≤ (at (suc k)).server.clock + 10 * fuel → Soon (suc k + fuel + 3)

      lt : k < n
      lt = omega (arith, room)

      choose : Again → (at k).to_client ≡ [] → (x : Bool) → (goes k lt h).then_client ≡ x → Soon (k + suc fuel + 3)
      choose again none true e = record { round = suc k; soon = omega arith; done = client_both (next k lt h) e ((goes k lt h).server_keeps l.other) }
      choose again none false e = let g = goes k lt h in
          sooner (suc k + fuel + 3) (k + suc fuel + 3) (omega arith) (again (next k lt h) (counts_on k lt h c) (client_late_next k lt h c l.other e)
          (λ q. let a = g.server_spoken q in let b = silent_is none in omega (arith, a, b)) (omega (arith, over, g.server_clock)))

      heard : Again → ((at k).to_client ≡ []) ⊎ (h.talk.to_client.number < (at k).server.sent) → Soon (k + suc fuel + 3)
      heard again (inr some) = client_late_step (suc fuel) k room lt h c l some
      heard again (inl none) = choose again none (goes k lt h).then_client refl

  client_joins : 68 ≤ n → (h : Held 34) → Counts 34 h → h.server_tuned ≡ true → Soon 68
  client_joins long h c other = choose (goes 34 lt h).then_client refl
    where
      lt : 34 < n
      lt = omega (arith, long)

      choose : (x : Bool) → (goes 34 lt h).then_client ≡ x → Soon 68
      choose true e = record { round = 35; soon = omega arith; done = client_both (next 34 lt h) e ((goes 34 lt h).server_keeps other) }
      choose false e = client_late 30 35 (omega (arith, long)) (at 35).server.clock (next 34 lt h) (counts_on 34 lt h c) (client_late_next 34 lt h c other e)
          (λ none. (goes 34 lt h).talk.to_client.sent_before) (omega arith)

  -- ---- the server is late

  record ServerLate (k : ℕ) (h : Held k) : Type 0 where
    is_late : h.server_tuned ≡ false
    other : h.client_tuned ≡ true
    own : (at k).server.own_stamp ≤ h.talk.to_server.reading
    count : (at k).server.confirmed ≤ h.talk.to_server.count
    calm : (at k).client.clock < (at k).client.sent_at + 300

  server_late_next : (k : ℕ) (most : k < n) (h : Held k) → Counts k h → h.client_tuned ≡ true → (goes k most h).then_server ≡ false → ServerLate (suc k) (next k most h)
  server_late_next k most h c other t = record {
    is_late = t;
    other = g.client_keeps other;
    own = omega (arith, (g.server_still t).1, (h.talk.to_server.deaf was).1, h.talk.to_client.young other, g.server_way.2);
    count = omega (arith, (g.server_notes.deaf t).confirmed, g.server_way.1, way_level _ _ _ _ _ _ _ _ h.talk.to_client other, c.server_counts was);
    calm = g.client_calm (way_up _ _ _ _ _ _ _ _ g.talk.to_client (g.client_keeps other));
  }
    where
      g : Goes names of_client of_server h.client_tuned h.server_tuned (at k) (at (suc k)) h.talk
      g = goes k most h

      was : h.server_tuned ≡ false
      was = not_then g.then_server h.server_tuned t g.server_keeps

  server_asked_again : (k : ℕ) (most : k < n) (h : Held k) → h.client_tuned ≡ true → waits (at k).server.phase ≡ true → Each IsPlainPdu (at k).to_client → Soon (suc k)
  server_asked_again k most h other w plain = choose (goes k most h).then_server refl
    where
      choose : (x : Bool) → (goes k most h).then_server ≡ x → Soon (suc k)
      choose true e = record { round = suc k; soon = omega arith; done = server_both (next k most h) e ((goes k most h).client_keeps other) }
      choose false e = let g = goes k most h in let y = g.server_notes.waits_on w e in
          record { round = suc k; soon = omega arith; done = shut (record { held = next k most h; kind = server_stuck e y.0 (g.client_notes.hush_plain plain) y.1 }) }

  server_asked : (k : ℕ) (most : suc k < n) (h : Held k) → h.client_tuned ≡ true → waits (at k).server.phase ≡ true → Soon (k + 2)
  server_asked k most h other w = choose (goes k lt h).then_server refl
    where
      lt : k < n
      lt = omega (arith, most)

      choose : (x : Bool) → (goes k lt h).then_server ≡ x → Soon (k + 2)
      choose true e = record { round = suc k; soon = omega arith; done = server_both (next k lt h) e ((goes k lt h).client_keeps other) }
      choose false e = let g = goes k lt h in let y = g.server_notes.waits_on w e in
          sooner (suc (suc k)) (k + 2) (omega arith) (server_asked_again (suc k) most (next k lt h) (g.client_keeps other) y.0 y.1)

  server_late_step : (fuel k : ℕ) (room : k + fuel + 3 ≤ n) (lt : k < n) (h : Held k) → Counts k h → ServerLate k h → h.talk.to_server.number < (at k).client.sent → Soon (k + fuel + 3)
  server_late_step fuel k room lt h c l heard = choose (goes k lt h).then_server refl
    where
      choose : (x : Bool) → (goes k lt h).then_server ≡ x → Soon (k + fuel + 3)
      choose true e = record { round = suc k; soon = omega arith; done = server_both (next k lt h) e ((goes k lt h).client_keeps l.other) }
      choose false e = by d.reached
        where
          g : Goes names of_client of_server h.client_tuned h.server_tuned (at k) (at (suc k)) h.talk
          g = goes k lt h

          d : Deaf (server_round names of_client of_server h.client_tuned h.server_tuned (at k) h.talk) (at (suc k)).server (at k).client.sent []
          d = g.server_notes.deaf e

          by : Reached (server_round names of_client of_server h.client_tuned h.server_tuned (at k) h.talk) (at (suc k)).server (at k).client.sent [] → Soon (k + fuel + 3)
          by (unheard u) = absurd (omega (arith, server_none k h u, heard))
          by (waiting u) = sooner (suc k + 2) (k + fuel + 3) (omega arith) (server_asked (suc k) (omega (arith, room)) (next k lt h) (g.client_keeps l.other) u)
          by (off u) = record { round = suc k; soon = omega arith; done = shut (record { held = next k lt h; kind = server_far e (omega (arith, u, g.server_way.0)) }) }
          by (low (inl u)) = absurd (omega (arith, u, (g.server_still e).1, l.own))
          by (low (inr u)) = absurd (omega (arith, u, d.confirmed, l.count))

  server_late : (fuel k : ℕ) → k + fuel + 3 ≤ n → (since : ℕ) (h : Held k) → Counts k h → ServerLate k h → ((at k).to_server ≡ [] → (at k).client.sent_at ≤ since) → since + 300 ≤ (at k).client.clock + 10 * fuel → Soon (k + fuel + 3)
  server_late zero k room since h c l silent_is over = heard (server_some k h)
    where
      heard : ((at k).to_server ≡ []) ⊎ (h.talk.to_server.number < (at k).client.sent) → Soon (k + zero + 3)
      heard (inr some) = server_late_step zero k room (omega (arith, room)) h c l some
      heard (inl none) = absurd (omega (arith, l.calm, silent_is none, over))
  server_late (suc fuel) k room since h c l silent_is over = heard (λ h1 c1 l1 s1 o1. server_late fuel (suc k) (omega (arith, room)) since h1 c1 l1 s1 o1) (server_some k h)
    where
      Again : Type 0
      Again = (h1 : Held (suc k)) → Counts (suc k) h1 → ServerLate (suc k) h1 → ((at (suc k)).to_server ≡ [] → (at (suc k)).client.sent_at ≤ since) → since + 300 ≤ (at (suc k)).client.clock + 10 * fuel → Soon (suc k + fuel + 3)

      lt : k < n
      lt = omega (arith, room)

      choose : Again → (at k).to_server ≡ [] → (x : Bool) → (goes k lt h).then_server ≡ x → Soon (k + suc fuel + 3)
      choose again none true e = record { round = suc k; soon = omega arith; done = server_both (next k lt h) e ((goes k lt h).client_keeps l.other) }
      choose again none false e = let g = goes k lt h in
          sooner (suc k + fuel + 3) (k + suc fuel + 3) (omega arith) (again (next k lt h) (counts_on k lt h c) (server_late_next k lt h c l.other e)
          (λ q. let a = g.client_spoken q in let b = silent_is none in omega (arith, a, b)) (omega (arith, over, g.client_clock)))

      heard : Again → ((at k).to_server ≡ []) ⊎ (h.talk.to_server.number < (at k).client.sent) → Soon (k + suc fuel + 3)
      heard again (inr some) = server_late_step (suc fuel) k room lt h c l some
      heard again (inl none) = choose again none (goes k lt h).then_server refl

  server_joins : 68 ≤ n → (h : Held 34) → Counts 34 h → h.client_tuned ≡ true → Soon 68
  server_joins long h c other = choose (goes 34 lt h).then_server refl
    where
      lt : 34 < n
      lt = omega (arith, long)

      choose : (x : Bool) → (goes 34 lt h).then_server ≡ x → Soon 68
      choose true e = record { round = 35; soon = omega arith; done = server_both (next 34 lt h) e ((goes 34 lt h).client_keeps other) }
      choose false e = server_late 30 35 (omega (arith, long)) (at 35).client.clock (next 34 lt h) (counts_on 34 lt h c) (server_late_next 34 lt h c other e)
          (λ none. (goes 34 lt h).talk.to_server.sent_before) (omega arith)

  -- ---- the sum

  outcome : 68 ≤ n → Held 0 → Soon 68
  outcome long h = by (by_34 (omega (arith, long)) (walk_to (at 1).client.clock (at 1).server.clock 31 1 32 (omega arith) (omega (arith, long)) (walk_first (omega (arith, long)) h)))
    where
      flags : (h : Held 34) → Counts 34 h → (x y : Bool) → h.client_tuned ≡ x → h.server_tuned ≡ y → (h.client_tuned ≡ true) ⊎ (h.server_tuned ≡ true) → Soon 68
      flags h c true true e f some = record { round = 34; soon = omega arith; done = both_up h e f }
      flags h c true false e f some = server_joins long h c e
      flags h c false true e f some = client_joins long h c f
      flags h c false false e f (inl some) = absurd (cc (e, some))
      flags h c false false e f (inr some) = absurd (cc (f, some))

      by : Sealed 34 ⊎ OneTuned 34 → Soon 68
      by (inl s) = record { round = 34; soon = omega arith; done = shut s }
      by (inr o) = flags o.held o.counts o.held.client_tuned o.held.server_tuned refl refl o.some

  -- both are tuned soon, or the server never knows a younger own stamp
  pub data Fate : Type 0 where
    tuned_soon : (k : ℕ) → k ≤ 68 → Talk names of_client of_server true true (at k) → Fate
    old_ever : (at n).server.own_stamp ≤ of_server → (is_open (at (suc n)).server.phase ≡ true → (at (suc n)).server.own_stamp ≤ of_server) → Fate

  pub fate_of_both : 68 ≤ n → (client_tuned server_tuned : Bool) → Talk names of_client of_server client_tuned server_tuned (at 0) → Fate
  fate_of_both long client_tuned server_tuned talk = finish (outcome long (record { client_tuned = client_tuned; server_tuned = server_tuned; talk = talk }))
    where
      ever : Sealed n → Fate
      ever s = old_ever (is_old n s.held s.kind) (λ then_in. server_old s.held then_in s.kind)

      done : (k : ℕ) → k ≤ 68 → Done k → Fate
      done k le (both_up h e f) = tuned_soon k le (subst (λ (b : Bool). Talk names of_client of_server true b (at k)) f (subst (λ (b : Bool). Talk names of_client of_server b h.server_tuned (at k)) e h.talk))
      done k le (shut s) = ever (sealed_to (n - k) k n (omega (arith, le, long)) (omega arith) s)

      finish : Soon 68 → Fate
      finish s = done s.round s.soon s.done
