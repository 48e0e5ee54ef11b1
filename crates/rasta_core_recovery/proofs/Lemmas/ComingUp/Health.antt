-- Health is kept by a round.
use Rattle.rasta_core_recovery.proofs.Words.Basics.{◌≡◌, ℕ, suc, ◌∙◌, ◌+◌, ◌*◌, ◌-◌, ◌^◌, ◌≤◌, ◌<◌, Bool, true, false, nat_le, nat_lt, if◌then◌else◌, List, [], ◌∷◌, ◌++◌, refl, sym, ap, subst, arith, nat_tests}
use Rattle.rasta_core_recovery.proofs.Words.Links.{wire, stamp, distance, before, LinkState, is_open, is_up, is_asking, deadline, state_at, Step, silent, then_do, header_of, pdu_of, sending, Receipt, age, ahead, behind, still_waiting, taking, bringing, in_turn, admitting, testing, connected, by_state, hearing, opening, ticking, Role, Identity, Verdict, Phase, Pdu, DisconnectionRequest, Heartbeat, Names, identity_of, partner_of, Body}
use Rattle.rasta_core_recovery.proofs.Lemmas.Rounds.Links.{Pair, worked, end_round, pair_round, the_step}
use Rattle.rasta_core_recovery.proofs.Lemmas.ComingUp.Healthy.{beats, count, is_reading, IsRecent, IsAlive, IsSteady, Follows, Beside, Near, Healthy}
use Rattle.rasta_core_recovery.proofs.Lemmas.Rounds.Calls.{Lives, at_reading, ticking_beats, opening_lives, worked_calm, heard_round, quiet_round, spoken}
use Rattle.rasta_core_recovery.proofs.Lemmas.ComingUp.Opens.{same_eq, step_is}

pub reading_open : (at : Phase) → is_reading at ≡ true → is_open at ≡ true
reading_open Phase.Closed e = cc
reading_open Phase.Start e = refl
reading_open Phase.Up e = refl
reading_open Phase.RetransmissionRequested e = refl
reading_open Phase.RetransmissionRunning e = refl

pub reading_up : (at : Phase) → is_reading at ≡ true → is_up at ≡ true
reading_up Phase.Closed e = cc
reading_up Phase.Start e = cc
reading_up Phase.Up e = refl
reading_up Phase.RetransmissionRequested e = refl
reading_up Phase.RetransmissionRunning e = refl

-- what an end that is up does of its own: a client that speaks needs room for one PDU more
pub works : (now : ℕ) (who : Role) (l : LinkState) (g : Bool) → l.clock ≡ now → is_reading l.phase ≡ true → now < l.own_stamp + 1800 → l.sent < 2147483000 → (g ≡ true → who ≡ Role.Client → l.sent + 1 < 2147483000)
    → nat_le 300 (now - l.sent_at) ≡ g → worked now who l ≡ record { link = spoken g l; pdus = beats g (spoken g l) }
unfolding worked sending header_of
works now who l false at up young room more due = worked_calm now who l (record { connected = reading_open l.phase up; young = young; room = room }) (rw (reading_up l.phase up) due) ∙ ap (λ (c : ℕ). silent (record l { clock = c })) (sym at)
works now who l true at up young room more due = speaks who (more refl)
  where
    lives : Lives now l
    lives = record { connected = reading_open l.phase up; young = young; room = room }

    said : LinkState
    said = record l { clock = now; sent = l.sent + 1; sent_at = now }

    one_less : l.sent + 1 - 1 ≡ l.sent
    one_less = omega arith

    beat : ticking now l ≡ the_step said (beats true said)
    beat = ticking_beats now l lives (rw (reading_up l.phase up) due) ∙ ap (λ (n : ℕ). the_step said (pdu_of (header_of said) n Heartbeat ∷ [])) (sym one_less)

    same : said ≡ spoken true l
    same = ap (λ (c : ℕ). record l { clock = c; sent = l.sent + 1; sent_at = c }) (sym at)

    stays : l.sent + 1 < 2147483000 → opening now said ≡ silent said
    stays further = opening_lives now said (record { connected = reading_open l.phase up; young = young; room = further })

    ends : the_step said (beats true said) ≡ the_step (spoken true l) (beats true (spoken true l))
    ends = ap (λ (k : LinkState). the_step k (beats true k)) same

    speaks : (who : Role) → (who ≡ Role.Client → l.sent + 1 < 2147483000) → worked now who l ≡ record { link = spoken true l; pdus = beats true (spoken true l) }
    speaks Role.Client further = ap (λ (s : Step). then_do s (λ k. opening now k)) beat ∙ ap (λ (s : Step). the_step s.link (beats true said ++ s.pdus)) (stays (further refl)) ∙ ends
    speaks Role.Server further = beat ∙ ends

-- a heartbeat as its receiver sees it: the next one, which confirms up to a count and returns an own reading
abbrev pub word : LinkState → ℕ → ℕ → ℕ → Pdu
word l counted own heard = record {
  receiver = l.identity.own;
  sender = l.identity.partner;
  sequence_number = wire l.partner_first l.expected;
  confirmed_sequence_number = wire l.own_first counted;
  time_stamp = heard;
  confirmed_time_stamp = stamp own;
  body = Heartbeat;
}

-- a disconnection by the limit of PDUs, in place of the heartbeat
abbrev pub last_word : LinkState → ℕ → ℕ → ℕ → Pdu
last_word l counted own heard = record (word l counted own heard) { body = DisconnectionRequest 0 2 }

abbrev pub at_phase : ℕ → Phase → LinkState → LinkState
at_phase now at l = record l { clock = now; phase = at }

abbrev pub heeded : ℕ → ℕ → ℕ → ℕ → ℕ → LinkState → LinkState
heeded now expected heard own counted l = record l {
  clock = now;
  phase = Phase.Up;
  expected = expected;
  partner_stamp = heard;
  own_stamp = own;
  confirmed = counted;
  waiting = still_waiting counted l.waiting;
}

module _ (now : ℕ) (l : LinkState) (counted own heard : ℕ) (young : now < l.own_stamp + 1800) (since : l.own_stamp ≤ own) (own_before : own ≤ now) (confirmed : l.confirmed ≤ counted) (counts : counted < l.sent)
    (room : l.sent < 2 ^ 31) (place : l.expected < 2 ^ 31) where
  alive : nat_lt now (l.own_stamp + 1800) ≡ true
  alive = let y = young in grind (arith, nat_tests)

  level : distance (wire l.partner_first l.expected) (wire l.partner_first l.expected) ≡ 0
  level = omega arith

  last : distance (wire l.own_first counted) (wire l.own_first (before l.sent)) ≡ l.sent - 1 - counted
  last = omega (arith, counts, room)

  old : distance (stamp own) (stamp now) ≡ now - own
  old = omega (arith, young, since, own_before)

  not_stale : nat_lt (now - l.own_stamp) (now - own) ≡ false
  not_stale = let a = since in let b = own_before in grind (arith, nat_tests)

  confirms : nat_lt (l.sent - 1 - counted + l.confirmed) l.sent ≡ true
  confirms = let a = confirmed in let b = counts in grind (arith, nat_tests)

  next : wire l.expected 1 ≡ l.expected + 1
  next = omega (arith, place)

  back_then : now - (now - own) ≡ own
  back_then = omega (arith, own_before)

  then_counted : l.sent - 1 - (l.sent - 1 - counted) ≡ counted
  then_counted = omega (arith, counts)

  three : {A : Type 0} (f : ℕ → ℕ → ℕ → A) → {a b c d e g : ℕ} → a ≡ b → c ≡ d → e ≡ g → f a c e ≡ f b d g
  three f x y z = cc

  pub word_heard : (at : Phase) → is_reading at ≡ true
      → hearing (word l counted own heard) (at_phase now at l) ≡ record { link = heeded now (l.expected + 1) heard own counted l; pdus = []; items = []; verdict = Verdict.Taken }
  unfolding hearing by_state connected testing ahead behind age admitting in_turn bringing taking deadline state_at
  word_heard Phase.Closed e = cc
  word_heard Phase.Start e = cc
  word_heard Phase.RetransmissionRequested e = cc
  word_heard Phase.Up e =
      rw (same_eq l.identity.own, same_eq l.identity.partner, alive, level, last, old, not_stale, confirms)
      (three (λ (a b c : ℕ). record { link = heeded now a heard b c l; pdus = []; items = []; verdict = Verdict.Taken }) next back_then then_counted)
  word_heard Phase.RetransmissionRunning e =
      rw (same_eq l.identity.own, same_eq l.identity.partner, alive, level, last, old, not_stale, confirms)
      (three (λ (a b c : ℕ). record { link = heeded now a heard b c l; pdus = []; items = []; verdict = Verdict.Taken }) next back_then then_counted)

  -- a word by which the partner closes
  pub last_heard : (at : Phase) → is_reading at ≡ true
      → let k = (hearing (last_word l counted own heard) (at_phase now at l)).link in (is_open k.phase ≡ false) × (k.closed_at ≡ now) × (k.clock ≡ now)
  unfolding hearing by_state connected testing ahead behind age admitting taking deadline state_at
  last_heard Phase.Closed e = cc
  last_heard Phase.Start e = cc
  last_heard Phase.RetransmissionRequested e = cc
  last_heard Phase.Up e = rw (same_eq l.identity.own, same_eq l.identity.partner, alive, level, last, old, not_stale, confirms) (refl, refl, refl)
  last_heard Phase.RetransmissionRunning e = rw (same_eq l.identity.own, same_eq l.identity.partner, alive, level, last, old, not_stale, confirms) (refl, refl, refl)

-- how an end hears what its partner sent in the last round, if it did
abbrev pub heard_by : Bool → ℕ → ℕ → LinkState → LinkState → LinkState
heard_by false now own m l = at_reading now l
heard_by true now own m l = heeded now (l.expected + 1) (stamp m.clock) own (m.expected - 1) l

-- what is true of two ends
pub record Sides (names : Names) (who : Role) (l m : LinkState) : Type 0 where
  pub own : l.identity ≡ identity_of who names
  pub other : m.identity ≡ identity_of (partner_of who) names

pub chosen_not : (b : Bool) (x : ℕ) → b ≡ false → (if b then 0 else x) ≡ x
chosen_not true x e = cc
chosen_not false x e = refl

pub reading_joined : (m : LinkState) → is_reading m.phase ≡ true → is_asking m ≡ false
reading_joined m e = by m.phase refl
  where
    by : (at : Phase) → m.phase ≡ at → is_asking m ≡ false
    by Phase.Closed f = absurd (cc (e, ap is_reading f))
    by Phase.Start f = absurd (cc (e, ap is_reading f))
    by Phase.Up f = rw f refl
    by Phase.RetransmissionRequested f = rw f refl
    by Phase.RetransmissionRunning f = rw f refl

-- a PDU by what its partner goes by
abbrev pub packed : ℕ → Body → ℕ → ℕ → ℕ → ℕ → ℕ → Pdu
packed stamped body a c e g i = record { receiver = a; sender = c; sequence_number = e; confirmed_sequence_number = g; time_stamp = stamped; confirmed_time_stamp = i; body = body }

pub packed_same : (stamped : ℕ) (body : Body) {a b c d e f g h i j : ℕ} → a ≡ b → c ≡ d → e ≡ f → g ≡ h → i ≡ j → packed stamped body a c e g i ≡ packed stamped body b d f h j
packed_same stamped body v w x y z = cc

-- each end goes by the name by which its partner calls it
pub named_by : (names : Names) (who : Role) (l m : LinkState) → Sides names who l m → (m.identity.partner ≡ l.identity.own) × (m.identity.own ≡ l.identity.partner)
named_by names who l m sides = (
  ap (λ (i : Identity). i.partner) sides.other ∙ receiver_is who ∙ sym (ap (λ (i : Identity). i.own) sides.own),
  ap (λ (i : Identity). i.own) sides.other ∙ sender_is who ∙ sym (ap (λ (i : Identity). i.partner) sides.own),
)
  where
    receiver_is : (who : Role) → (identity_of (partner_of who) names).partner ≡ (identity_of who names).own
    receiver_is Role.Client = refl
    receiver_is Role.Server = refl

    sender_is : (who : Role) → (identity_of (partner_of who) names).own ≡ (identity_of who names).partner
    sender_is Role.Client = refl
    sender_is Role.Server = refl

-- the heartbeat of a partner is the next one
pub word_is : (names : Names) (who : Role) (f : Bool) (l m : LinkState) → Sides names who l m → Follows true l m → (h : Follows f m l) → l.sent < 2 ^ 31
    → pdu_of (header_of m) (m.sent - 1) Heartbeat ≡ word l (m.expected - 1) h.reading (stamp m.clock)
unfolding header_of pdu_of
word_is names who f l m sides there back fits = packed_same (stamp m.clock) Heartbeat named.0 named.1 number counts returns
  where
    named : (m.identity.partner ≡ l.identity.own) × (m.identity.own ≡ l.identity.partner)
    named = named_by names who l m sides

    number : wire m.own_first (m.sent - 1) ≡ wire l.partner_first l.expected
    number = omega (arith, there.first, there.expected)

    counts : (header_of m).confirmed_sequence_number ≡ wire l.own_first (m.expected - 1)
    counts = chosen_not (is_asking m) _ (reading_joined m back.reads) ∙ omega (arith, back.first, back.some, back.expected, fits)

    returns : (header_of m).confirmed_time_stamp ≡ stamp back.reading
    returns = chosen_not (is_asking m) _ (reading_joined m back.reads) ∙ back.kept

pub fresh : (f : Bool) (m : LinkState) (kept : ℕ) → IsRecent f m kept → m.clock < m.sent_at + 300 → m.clock ≤ kept + 309
fresh false m kept recent calm = omega (arith, recent, calm)
fresh true m kept recent calm = recent.1

-- what comes to an end that takes it, with a partner that does so
pub hears_then : (names : Names) (who : Role) (f back_flies : Bool) (l m : LinkState) → Sides names who l m → Follows f l m → (h : Follows back_flies m l)
    → l.clock + 10 < l.own_stamp + 1800 → l.sent < 2147483000 → m.sent < 2 ^ 31
    → end_round (l.clock + 10) (beats f m) l ≡ worked (l.clock + 10) l.identity.role (heard_by f (l.clock + 10) h.reading m l)
hears_then names who false back_flies l m sides there back young room fits =
    quiet_round _ _ _ (record { connected = reading_open l.phase there.reads; young = young; room = room }) refl
hears_then names who true back_flies l m sides there back young room fits =
    ap (λ (p : Pdu). end_round (l.clock + 10) (p ∷ []) l) (word_is names who back_flies l m sides there back (omega (arith, room)))
    ∙ heard_round _ _ _ _ _ (record { connected = reading_open l.phase there.reads; young = young; room = room }) (ap (λ (r : Receipt). r.link) hears) (ap (λ (r : Receipt). r.pdus) hears) refl
  where
    hears : hearing (word l (m.expected - 1) back.reading (stamp m.clock)) (at_phase (l.clock + 10) l.phase l)
        ≡ record { link = heeded (l.clock + 10) (l.expected + 1) (stamp m.clock) back.reading (m.expected - 1) l; pdus = []; items = []; verdict = Verdict.Taken }
    hears = word_heard (l.clock + 10) l (m.expected - 1) back.reading (stamp m.clock) young back.since (omega (arith, back.before)) (omega (arith, back.confirmed))
        (omega (arith, back.expected, back.some)) (omega (arith, room)) (omega (arith, there.expected, fits)) l.phase there.reads

pub fresh_by : (f back_flies : Bool) (l m : LinkState) → Follows f l m → (h : Follows back_flies m l) → l.clock + 10 < l.own_stamp + 1800
    → (is_reading (heard_by f (l.clock + 10) h.reading m l).phase ≡ true) × (l.clock + 10 < (heard_by f (l.clock + 10) h.reading m l).own_stamp + 1800)
fresh_by false back_flies l m there back young = (there.reads, young)
fresh_by true back_flies l m there back young = (refl, omega (arith, fresh back_flies l back.reading back.recent back.calm))

pub heard_clock : (f : Bool) (now own : ℕ) (m l : LinkState) → (heard_by f now own m l).clock ≡ now
heard_clock false now own m l = refl
heard_clock true now own m l = refl

pub heard_sent : (f : Bool) (now own : ℕ) (m l : LinkState) → (heard_by f now own m l).sent ≡ l.sent
heard_sent false now own m l = refl
heard_sent true now own m l = refl

pub heard_said : (f : Bool) (now own : ℕ) (m l : LinkState) → (heard_by f now own m l).sent_at ≡ l.sent_at
heard_said false now own m l = refl
heard_said true now own m l = refl

-- a round at an end that takes what comes, with a partner that does so
pub healthy_round : (names : Names) (who : Role) (f back_flies g : Bool) (l m : LinkState) → Sides names who l m → Follows f l m → (h : Follows back_flies m l)
    → l.clock + 10 < l.own_stamp + 1800 → l.sent < 2147483000 → m.sent < 2 ^ 31 → (g ≡ true → l.identity.role ≡ Role.Client → l.sent + 1 < 2147483000) → nat_le 300 (l.clock + 10 - l.sent_at) ≡ g
    → end_round (l.clock + 10) (beats f m) l
    ≡ the_step (spoken g (heard_by f (l.clock + 10) h.reading m l)) (beats g (spoken g (heard_by f (l.clock + 10) h.reading m l)))
healthy_round names who f back_flies g l m sides there back young room fits more due =
    hears_then names who f back_flies l m sides there back young room fits
    ∙ works (l.clock + 10) l.identity.role k g (heard_clock f (l.clock + 10) back.reading m l) lives.0 lives.1 (omega (arith, sent, room)) (λ e c. let r = more e c in omega (arith, sent, r))
    (ap (λ (x : ℕ). nat_le 300 (l.clock + 10 - x)) (heard_said f (l.clock + 10) back.reading m l) ∙ due)
  where
    k : LinkState
    k = heard_by f (l.clock + 10) back.reading m l

    lives : (is_reading k.phase ≡ true) × (l.clock + 10 < k.own_stamp + 1800)
    lives = fresh_by f back_flies l m there back young

    sent : k.sent ≡ l.sent
    sent = heard_sent f (l.clock + 10) back.reading m l

-- what hearing leaves at an end: its clock goes on, and with a heartbeat it has the partner's reading, and a younger stamp back
abbrev pub Got : Bool → ℕ → LinkState → LinkState → LinkState → Type 0
Got false own l m l1 = (l1.partner_stamp ≡ l.partner_stamp) × (l1.own_stamp ≡ l.own_stamp)
Got true own l m l1 = (l1.partner_stamp ≡ stamp m.clock) × (l1.own_stamp ≡ own) × (own ≤ l.clock) × (l.clock ≤ own + 309)

pub record Heard (f : Bool) (own : ℕ) (l m l1 : LinkState) : Type 0 where
  pub reads : is_reading l1.phase ≡ true
  pub first : l1.partner_first ≡ l.partner_first
  pub clock : l1.clock ≡ l.clock + 10
  pub expected : l1.expected ≡ l.expected + count f
  pub got : Got f own l m l1

-- and what its own hearing leaves of it as a speaker
pub record Speaker (reading expected : ℕ) (m m1 : LinkState) : Type 0 where
  pub first : m1.own_first ≡ m.own_first
  pub sent : m1.sent ≡ m.sent
  pub sent_at : m1.sent_at ≡ m.sent_at
  pub clock : m1.clock ≡ m.clock + 10
  pub since : m1.own_stamp ≤ reading
  pub confirmed : m1.confirmed < expected

not_due : (clock sent_at : ℕ) → nat_le 300 (clock + 10 - sent_at) ≡ false → clock + 10 < sent_at + 300
not_due clock sent_at e = let f = e in grind (arith, nat_tests)

is_due : (clock sent_at : ℕ) → nat_le 300 (clock + 10 - sent_at) ≡ true → sent_at + 300 ≤ clock + 10
is_due clock sent_at e = let f = e in grind (arith, nat_tests)

goes_on : (own : ℕ) (f g : Bool) (l m l1 m1 : LinkState) → (h : Follows f l m) → Heard f own l m l1 → Speaker h.reading l.expected m m1
    → nat_le 300 (m.clock + 10 - m.sent_at) ≡ g → Follows g l1 (spoken g m1)
goes_on own false false l m l1 m1 h heard said due = let calm = not_due _ _ due in record {
  reads = heard.reads;
  first = heard.first ∙ h.first ∙ sym said.first;
  some = omega (arith, h.some, heard.expected);
  expected = omega (arith, h.expected, heard.expected, said.sent);
  confirmed = omega (arith, said.confirmed, heard.expected);
  reading = h.reading;
  kept = heard.got.0 ∙ h.kept;
  since = said.since;
  before = omega (arith, h.before, said.clock);
  sent_before = omega (arith, h.sent_before, said.clock, said.sent_at);
  calm = omega (arith, calm, said.clock, said.sent_at);
  recent = omega (arith, h.recent, said.sent_at);
  own_before = omega (arith, h.own_before, heard.clock, heard.got.1);
}
goes_on own false true l m l1 m1 h heard said due = record {
  reads = heard.reads;
  first = heard.first ∙ h.first ∙ sym said.first;
  some = omega (arith, h.some, heard.expected);
  expected = omega (arith, h.expected, heard.expected, said.sent);
  confirmed = omega (arith, said.confirmed, heard.expected);
  reading = h.reading;
  kept = heard.got.0 ∙ h.kept;
  since = said.since;
  before = omega (arith, h.before, said.clock);
  sent_before = omega arith;
  calm = omega arith;
  recent = (refl, omega (arith, h.recent, h.calm, said.clock));
  own_before = omega (arith, h.own_before, heard.clock, heard.got.1);
}
goes_on own true false l m l1 m1 h heard said due = let calm = not_due _ _ due in record {
  reads = heard.reads;
  first = heard.first ∙ h.first ∙ sym said.first;
  some = omega (arith, h.some, heard.expected);
  expected = omega (arith, h.expected, heard.expected, said.sent);
  confirmed = omega (arith, said.confirmed, heard.expected);
  reading = m.clock;
  kept = heard.got.0;
  since = omega (arith, said.since, h.before);
  before = omega (arith, said.clock);
  sent_before = omega (arith, h.sent_before, said.clock, said.sent_at);
  calm = omega (arith, calm, said.clock, said.sent_at);
  recent = omega (arith, h.sent_before, said.sent_at);
  own_before = omega (arith, heard.got.1, heard.got.2, heard.clock);
}
goes_on own true true l m l1 m1 h heard said due = absurd (omega (arith, is_due _ _ due, h.recent.0))

-- its own word changes nothing of what it has of its partner
with_word : (f g : Bool) (l m : LinkState) → Follows f l m → Follows f (spoken g l) m
with_word f false l m h = h
with_word false true l m h = record { reads = h.reads; first = h.first; some = h.some; expected = h.expected; confirmed = h.confirmed; reading = h.reading; kept = h.kept; since = h.since; before = h.before; sent_before = h.sent_before; calm = h.calm; recent = h.recent; own_before = h.own_before }
with_word true true l m h = record { reads = h.reads; first = h.first; some = h.some; expected = h.expected; confirmed = h.confirmed; reading = h.reading; kept = h.kept; since = h.since; before = h.before; sent_before = h.sent_before; calm = h.calm; recent = h.recent; own_before = h.own_before }

pub hearing_leaves : (f b : Bool) (l m : LinkState) → Follows f l m → (h : Follows b m l) → Heard f h.reading l m (heard_by f (l.clock + 10) h.reading m l)
hearing_leaves false b l m there h = record { reads = there.reads; first = refl; clock = refl; expected = omega arith; got = (refl, refl) }
hearing_leaves true b l m there h = record { reads = refl; first = refl; clock = refl; expected = refl; got = (refl, refl, h.before, fresh b l h.reading h.recent h.calm) }

pub speaker_stays : (f b : Bool) (l m : LinkState) → (h : Follows f l m) → (k : Follows b m l) → Speaker h.reading l.expected m (heard_by b (m.clock + 10) h.reading l m)
speaker_stays f false l m h k = record { first = refl; sent = refl; sent_at = refl; clock = refl; since = h.since; confirmed = h.confirmed }
speaker_stays f true l m h k = record { first = refl; sent = refl; sent_at = refl; clock = refl; since = omega arith; confirmed = omega (arith, h.some) }

-- one direction after a round
pub way_kept : (f b gl gm : Bool) (l m : LinkState) → (h : Follows f l m) → (k : Follows b m l) → nat_le 300 (m.clock + 10 - m.sent_at) ≡ gm
    → Follows gm (spoken gl (heard_by f (l.clock + 10) k.reading m l)) (spoken gm (heard_by b (m.clock + 10) h.reading l m))
way_kept f b gl gm l m h k due =
    with_word gm gl _ _ (goes_on k.reading f gm l m _ _ h (hearing_leaves f b l m h k) (speaker_stays f b l m h k) due)

pub identity_stays : (f g : Bool) (now own : ℕ) (m l : LinkState) → (spoken g (heard_by f now own m l)).identity ≡ l.identity
identity_stays false false now own m l = refl
identity_stays false true now own m l = refl
identity_stays true false now own m l = refl
identity_stays true true now own m l = refl

-- ---- an end that is up and was heard lately

steady_word : (f g : Bool) (l m : LinkState) → IsSteady f l m → IsSteady f (spoken g l) m
steady_word f false l m s = s
steady_word false true l m s = record { up = s.up; alive = s.alive }
steady_word true true l m s = record { up = s.up; alive = s.alive }

steady_goes : (own : ℕ) (f g : Bool) (l m l1 m1 : LinkState) → (h : Follows f l m) → Heard f own l m l1 → Speaker h.reading l.expected m m1
    → l1.phase ≡ Phase.Up → (f ≡ false → IsAlive f l m) → nat_le 300 (m.clock + 10 - m.sent_at) ≡ g → IsSteady g l1 (spoken g m1)
steady_goes own false false l m l1 m1 h heard said up alive due = record { up = up; alive = omega (arith, alive refl, heard.clock, heard.got.1, said.clock, said.sent_at) }
steady_goes own false true l m l1 m1 h heard said up alive due = record { up = up; alive = omega (arith, alive refl, h.calm, heard.clock, heard.got.1) }
steady_goes own true false l m l1 m1 h heard said up alive due = record { up = up; alive = omega (arith, heard.got.1, heard.got.3, heard.clock, said.clock, said.sent_at, h.recent.0) }
steady_goes own true true l m l1 m1 h heard said up alive due = absurd (omega (arith, is_due _ _ due, h.recent.0))

comes_up : (f : Bool) (now own : ℕ) (m l : LinkState) → (f ≡ false → l.phase ≡ Phase.Up) → (heard_by f now own m l).phase ≡ Phase.Up
comes_up false now own m l up = up refl
comes_up true now own m l up = refl

-- it comes to be so as a heartbeat comes, and stays so
pub steady_after : (f b gl gm : Bool) (l m : LinkState) → (h : Follows f l m) → (k : Follows b m l) → (f ≡ false → IsSteady f l m) → nat_le 300 (m.clock + 10 - m.sent_at) ≡ gm
    → IsSteady gm (spoken gl (heard_by f (l.clock + 10) k.reading m l)) (spoken gm (heard_by b (m.clock + 10) h.reading l m))
steady_after f b gl gm l m h k steady due =
    steady_word gm gl _ _ (steady_goes k.reading f gm l m _ _ h (hearing_leaves f b l m h k) (speaker_stays f b l m h k)
    (comes_up f (l.clock + 10) k.reading m l (λ e. (steady e).up)) (λ e. (steady e).alive) due)

-- ---- both ends

said_at : (g f : Bool) → g ≡ false → (now own : ℕ) (m l : LinkState) → (spoken g (heard_by f now own m l)).sent_at ≡ l.sent_at
said_at true f e now own m l = cc
said_at false false e now own m l = refl
said_at false true e now own m l = refl

pub counts_by : (g f : Bool) (now own : ℕ) (m l : LinkState) → (spoken g (heard_by f now own m l)).sent ≡ l.sent + count g
counts_by false false now own m l = omega arith
counts_by false true now own m l = omega arith
counts_by true false now own m l = refl
counts_by true true now own m l = refl

-- An end has said one PDU in 300 ms at most in its connection, which it was in at a reading so many rounds ago.
pub record IsSlow (since rounds : ℕ) (l : LinkState) : Type 0 where
  pub clock : l.clock ≡ since + 10 * rounds
  pub said : 300 * l.sent + since ≤ l.sent_at + 610

slow_by : (g f : Bool) (since rounds own : ℕ) (m l : LinkState) → nat_le 300 (l.clock + 10 - l.sent_at) ≡ g → IsSlow since rounds l → IsSlow since (suc rounds) (spoken g (heard_by f (l.clock + 10) own m l))
slow_by false false since rounds own m l due slow = record { clock = omega (arith, slow.clock); said = slow.said }
slow_by false true since rounds own m l due slow = record { clock = omega (arith, slow.clock); said = slow.said }
slow_by true false since rounds own m l due slow = record { clock = omega (arith, slow.clock); said = omega (arith, slow.said, is_due l.clock l.sent_at due) }
slow_by true true since rounds own m l due slow = record { clock = omega (arith, slow.clock); said = omega (arith, slow.said, is_due l.clock l.sent_at due) }

-- a round of two ends that live through it, and of whom the client has room for what it says
module _ (names : Names) (of_client of_server : Bool) (p : Pair) (h : Beside names of_client of_server p)
    (client_young : p.client.clock + 10 < p.client.own_stamp + 1800) (server_young : p.server.clock + 10 < p.server.own_stamp + 1800)
    (client_room : p.client.sent < 2147483000) (server_room : p.server.sent < 2147483000) (client_more : nat_le 300 (p.client.clock + 10 - p.client.sent_at) ≡ true → p.client.sent + 1 < 2147483000) where
  abbrev gc : Bool
  gc = nat_le 300 (p.client.clock + 10 - p.client.sent_at)

  abbrev gs : Bool
  gs = nat_le 300 (p.server.clock + 10 - p.server.sent_at)

  abbrev c1 : LinkState
  c1 = spoken gc (heard_by of_server (p.client.clock + 10) h.hears_client.reading p.server p.client)

  abbrev s1 : LinkState
  s1 = spoken gs (heard_by of_client (p.server.clock + 10) h.hears_server.reading p.client p.server)

  is : pair_round p ≡ record { client = c1; server = s1; to_client = beats gs s1; to_server = beats gc c1 }
  is = step_is p _ _
      (ap (λ (ps : List Pdu). end_round (p.client.clock + 10) ps p.client) h.to_client
      ∙ healthy_round names Role.Client of_server of_client gc p.client p.server (record { own = h.client; other = h.server }) h.hears_server h.hears_client client_young client_room (omega (arith, server_room)) (λ e c. client_more e) refl)
      (ap (λ (ps : List Pdu). end_round (p.server.clock + 10) ps p.server) h.to_server
      ∙ healthy_round names Role.Server of_client of_server gs p.server p.client (record { own = h.server; other = h.client }) h.hears_client h.hears_server server_young server_room (omega (arith, client_room)) (λ e c. absurd (not_client c)) refl)
    where
      server_role : p.server.identity.role ≡ Role.Server
      server_role = ap (λ (i : Identity). i.role) h.server

      not_client : p.server.identity.role ≡ Role.Client → ⊥
      not_client c = cc (c, server_role)

  beside_round : Beside names gc gs (record { client = c1; server = s1; to_client = beats gs s1; to_server = beats gc c1 })
  beside_round = record {
    client = identity_stays of_server gc _ _ _ _ ∙ h.client;
    server = identity_stays of_client gs _ _ _ _ ∙ h.server;
    to_client = refl;
    to_server = refl;
    hears_server = way_kept of_server of_client gc gs p.client p.server h.hears_server h.hears_client refl;
    hears_client = way_kept of_client of_server gs gc p.server p.client h.hears_client h.hears_server refl;
  }

  pub beside_kept : Beside names gc gs (pair_round p)
  beside_kept = subst (Beside names gc gs) (sym is) beside_round

  pub client_counts : (pair_round p).client.sent ≡ p.client.sent + count gc
  client_counts = ap (λ (q : Pair). q.client.sent) is ∙ counts_by gc of_server (p.client.clock + 10) h.hears_client.reading p.server p.client

  pub server_counts : (pair_round p).server.sent ≡ p.server.sent + count gs
  server_counts = ap (λ (q : Pair). q.server.sent) is ∙ counts_by gs of_client (p.server.clock + 10) h.hears_server.reading p.client p.server

  pub client_slow : (since rounds : ℕ) → IsSlow since rounds p.client → IsSlow since (suc rounds) (pair_round p).client
  client_slow since rounds slow = subst (λ (q : Pair). IsSlow since (suc rounds) q.client) (sym is) (slow_by gc of_server since rounds h.hears_client.reading p.server p.client refl slow)

  pub server_slow : (since rounds : ℕ) → IsSlow since rounds p.server → IsSlow since (suc rounds) (pair_round p).server
  server_slow since rounds slow = subst (λ (q : Pair). IsSlow since (suc rounds) q.server) (sym is) (slow_by gs of_client since rounds h.hears_server.reading p.client p.server refl slow)

  pub beside_client_steady : (of_server ≡ false → IsSteady of_server p.client p.server) → IsSteady gs (pair_round p).client (pair_round p).server
  beside_client_steady steady = subst (λ (q : Pair). IsSteady gs q.client q.server) (sym is) (steady_after of_server of_client gc gs p.client p.server h.hears_server h.hears_client steady refl)

  pub beside_server_steady : (of_client ≡ false → IsSteady of_client p.server p.client) → IsSteady gc (pair_round p).server (pair_round p).client
  beside_server_steady steady = subst (λ (q : Pair). IsSteady gc q.server q.client) (sym is) (steady_after of_client of_server gs gc p.server p.client h.hears_client h.hears_server steady refl)

  -- an end that says nothing has said its last PDU when it had before
  beside_client_said : gc ≡ false → of_client ≡ false → (pair_round p).client.sent_at ≡ p.client.sent_at
  beside_client_said e f = ap (λ (q : Pair). q.client.sent_at) is ∙ said_at gc of_server e (p.client.clock + 10) h.hears_client.reading p.server p.client

  beside_server_said : gs ≡ false → of_server ≡ false → (pair_round p).server.sent_at ≡ p.server.sent_at
  beside_server_said e f = ap (λ (q : Pair). q.server.sent_at) is ∙ said_at gs of_client e (p.server.clock + 10) h.hears_server.reading p.client p.server

pub count_most : (b : Bool) → count b ≤ 1
count_most false = omega arith
count_most true = omega arith

-- a round of two ends that live through it, with room for a PDU more
module _ (names : Names) (rest : ℕ) (of_client of_server : Bool) (p : Pair) (h : Near names (suc rest) of_client of_server p)
    (client_young : p.client.clock + 10 < p.client.own_stamp + 1800) (server_young : p.server.clock + 10 < p.server.own_stamp + 1800) where
  alike : Beside names of_client of_server p
  alike = h.beside

  client_room : p.client.sent < 2147483000
  client_room = let r = h.client_room in omega (arith, r)

  server_room : p.server.sent < 2147483000
  server_room = let r = h.server_room in omega (arith, r)

  client_more : nat_le 300 (p.client.clock + 10 - p.client.sent_at) ≡ true → p.client.sent + 1 < 2147483000
  client_more e = let r = h.client_room in omega (arith, r)

  abbrev pub client_due : Bool
  client_due = nat_le 300 (p.client.clock + 10 - p.client.sent_at)

  abbrev pub server_due : Bool
  server_due = nat_le 300 (p.server.clock + 10 - p.server.sent_at)

  pub near_kept : Near names rest client_due server_due (pair_round p)
  near_kept = record {
    beside = beside_kept names of_client of_server p alike client_young server_young client_room server_room client_more;
    client_room = omega (arith, client_counts names of_client of_server p alike client_young server_young client_room server_room client_more, count_most client_due, h.client_room);
    server_room = omega (arith, server_counts names of_client of_server p alike client_young server_young client_room server_room client_more, count_most server_due, h.server_room);
  }

  pub client_steady : (of_server ≡ false → IsSteady of_server p.client p.server) → IsSteady server_due (pair_round p).client (pair_round p).server
  client_steady steady = beside_client_steady names of_client of_server p alike client_young server_young client_room server_room client_more steady

  pub server_steady : (of_client ≡ false → IsSteady of_client p.server p.client) → IsSteady client_due (pair_round p).server (pair_round p).client
  server_steady steady = beside_server_steady names of_client of_server p alike client_young server_young client_room server_room client_more steady

  pub client_said : client_due ≡ false → of_client ≡ false → (pair_round p).client.sent_at ≡ p.client.sent_at
  client_said e f = beside_client_said names of_client of_server p alike client_young server_young client_room server_room client_more e f

  pub server_said : server_due ≡ false → of_server ≡ false → (pair_round p).server.sent_at ≡ p.server.sent_at
  server_said e f = beside_server_said names of_client of_server p alike client_young server_young client_room server_room client_more e f

pub steady_young : (f : Bool) (l m : LinkState) → Follows f l m → IsSteady f l m → l.clock + 10 < l.own_stamp + 1800
steady_young false l m h s = omega (arith, s.alive, h.calm, h.sent_before)
steady_young true l m h s = omega (arith, s.alive)

-- health is kept by a round
pub health_kept : (names : Names) (rest : ℕ) (p : Pair) → Healthy names (suc rest) p → Healthy names rest (pair_round p)
health_kept names rest p h = record {
  of_client = client_due names rest h.of_client h.of_server p h.near client_young server_young;
  of_server = server_due names rest h.of_client h.of_server p h.near client_young server_young;
  near = near_kept names rest h.of_client h.of_server p h.near client_young server_young;
  steady_client = client_steady names rest h.of_client h.of_server p h.near client_young server_young (λ e. h.steady_client);
  steady_server = server_steady names rest h.of_client h.of_server p h.near client_young server_young (λ e. h.steady_server);
}
  where
    client_young : p.client.clock + 10 < p.client.own_stamp + 1800
    client_young = steady_young h.of_server p.client p.server (h.near.hears_server) h.steady_client

    server_young : p.server.clock + 10 < p.server.own_stamp + 1800
    server_young = steady_young h.of_client p.server p.client (h.near.hears_client) h.steady_server
