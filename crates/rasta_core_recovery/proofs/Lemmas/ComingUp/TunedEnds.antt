-- An end that took a PDU of the last round takes all that its partner said after it.
use Rattle.rasta_core_recovery.proofs.Words.Basics.{◌≡◌, ℕ, ◌∙◌, ◌+◌, ◌-◌, ◌^◌, ◌≤◌, ◌<◌, ◌⊎◌, inl, inr, Bool, true, false, ◌==◌, List, [], ◌∷◌, ◌++◌, refl, sym, ap, subst, arith, ltb-true, ltb-false, nat_tests}
use Rattle.rasta_core_recovery.proofs.Words.Links.{wire, stamp, LinkState, Step, header_of, pdu_of, age, ahead, behind, hearing, Header, Identity, Phase, Pdu, RetransmissionRequest, RetransmissionResponse, Each}
use Rattle.rasta_core_recovery.proofs.Lemmas.Rounds.Links.{heard, all_heard}
use Rattle.rasta_core_recovery.proofs.Lemmas.ComingUp.Healthy.{is_reading, waits}
use Rattle.rasta_core_recovery.proofs.Lemmas.Rounds.Calls.{heard_lives}
use Rattle.rasta_core_recovery.proofs.Lemmas.Rounds.Lists.{each_append}
use Rattle.rasta_core_recovery.proofs.Lemmas.Rounds.Words.{IsPlain, IsSimple, IsNoAnswer, Says, Voice, voice_of, IsWord, Chain, chain_lower, chain_then, chain_ends}
use Rattle.rasta_core_recovery.proofs.Lemmas.Rounds.Deed.{InTurn, Blocked, stranger, other, opens, far, stale, unconfirming, discarded, Passes, Taken, Asked, Deed, leaves, keeps, asks, takes, hears}
use Rattle.rasta_core_recovery.proofs.Lemmas.Rounds.Fold.{Out, heard_case, same_clock, Next, gone_next, stays_next, all_hear}
use Rattle.rasta_core_recovery.proofs.Lemmas.Rounds.Course.{Joined, lively, Goes, goes_none, goes_then, voice_goes, fresh_age, taken_joined, placed, returned, counted, answers_chain, asked_chain, asked_joined, asked_goes, taken_goes}

abbrev pub IsPlainPdu : Pdu → Type 0
IsPlainPdu p = IsPlain p.body

abbrev pub IsNoAnswerPdu : Pdu → Type 0
IsNoAnswerPdu p = IsNoAnswer p.body

pub says_plain : (h : Header) (n end : ℕ) (ps : List Pdu) → Says IsPlain h n ps end → Each IsPlainPdu ps
says_plain h n end [] s = tt
says_plain h n end (p ∷ ps) s = (s.1, says_plain h (n + 1) end ps s.2)

pub same_eq : (a b : ℕ) → a ≡ b → (a == b) ≡ true
same_eq a b e = subst (λ (x : ℕ). (a == x) ≡ true) e (grind (arith, nat_tests))

pub waits_not_reading : (at : Phase) → waits at ≡ true → is_reading at ≡ true → ⊥
waits_not_reading Phase.Closed e f = cc (e, f)
waits_not_reading Phase.Start e f = cc (e, f)
waits_not_reading Phase.Up e f = cc (e, f)
waits_not_reading Phase.RetransmissionRequested e f = cc (e, f)
waits_not_reading Phase.RetransmissionRunning e f = cc (e, f)

not_zero : (n : ℕ) → 1 ≤ n → (n == 0) ≡ false
not_zero n some = let s = some in grind (arith, nat_tests)

-- what wasn't so before isn't so after, where it stays
pub not_before : (y z : Bool) → y ≡ false → (z ≡ true → y ≡ true) → z ≡ false
not_before y true e f = absurd (cc (e, f refl))
not_before y false e f = refl

-- what is fixed in a round: what the partner said and with which voice, at which reading of its clock, where that begins, and
-- where the end stood
pub record Round : Type 0 where
  pub now : ℕ
  pub said_at : ℕ
  pub end : ℕ
  pub confirmed : ℕ
  pub returned : ℕ
  pub voice : Voice
  pub kept : ℕ
  pub own : ℕ
  pub tuned : Bool
  pub before : LinkState
  pub number : ℕ
  pub count : ℕ
  pub reading : ℕ
  pub pdus : List Pdu

pub record Bounds (x : Round) : Type 0 where
  pub level : x.before.expected ≤ x.number
  pub fits : x.end < 2 ^ 31
  pub old : x.returned ≤ x.now
  pub stamped : x.voice.stamp ≡ stamp x.said_at
  pub kept : x.kept ≤ x.said_at

-- the reading whose stamp it keeps, and whether it is tuned: whether it takes what comes
pub record Ghost : Type 0 where
  pub kept : ℕ
  pub tuned : Bool

pub record Tuned (l : LinkState) (n c r : ℕ) : Type 0 where
  pub reading : is_reading l.phase ≡ true
  pub expected : l.expected ≡ n
  pub confirmed : l.confirmed ≤ c
  pub own : l.own_stamp ≤ r

-- it has heard one of them, or none of them has come yet
abbrev pub HasHeard : Round → ℕ → LinkState → Type 0
HasHeard x kept l = (kept ≡ x.said_at) × (x.reading ≤ l.own_stamp)

abbrev pub HasWaited : Round → ℕ → LinkState → Type 0
HasWaited x kept l = (kept ≡ x.kept) × (x.tuned ≡ true) × (l.own_stamp ≡ x.own)

abbrev pub Mode : Round → Bool → ℕ → LinkState → ℕ → ℕ → ℕ → List Pdu → Type 0
Mode x false kept l n c r ps = (kept ≡ x.kept) × (l.own_stamp ≡ x.own)
Mode x true kept l n c r ps = Tuned l n c r × (HasHeard x kept l ⊎ ((ps ≡ x.pdus) × HasWaited x kept l))

-- what they return is older, or what they confirm is less, than an end knows
abbrev pub IsOutdated : Round → LinkState → Type 0
IsOutdated x l = (x.returned < l.own_stamp) ⊎ (x.confirmed < l.confirmed)

-- why an end takes none of these PDUs, the first of which has this number: they are too far ahead; they return an older stamp, or
-- confirm less, than it knows; it has missed one and there is no answer among them, whether it has asked or not; there are none
pub data Shut (x : Round) (l : LinkState) (n : ℕ) (ps : List Pdu) : Type 0 where
  far_off : l.expected + 200 < n → Shut x l n ps
  outdated : IsOutdated x l → Shut x l n ps
  missed : l.expected < n → Each IsNoAnswerPdu ps → Shut x l n ps
  stuck : waits l.phase ≡ true → Each IsNoAnswerPdu ps → Shut x l n ps
  nothing : ps ≡ [] → Shut x l n ps

-- it is so as the round begins
abbrev pub IsShut : Round → Type 0
IsShut x = (x.tuned ≡ false) × Shut x x.before x.number x.pdus

-- what an end that isn't tuned made of what it heard
pub data Reached (x : Round) (l : LinkState) (n : ℕ) (ps : List Pdu) : Type 0 where
  unheard : ps ≡ x.pdus → Reached x l n ps
  waiting : waits l.phase ≡ true → Reached x l n ps
  off : l.expected + 200 < n → Reached x l n ps
  low : (x.reading < l.own_stamp) ⊎ (x.count < l.confirmed) → Reached x l n ps

pub record Deaf (x : Round) (l : LinkState) (n : ℕ) (ps : List Pdu) : Type 0 where
  pub expected : l.expected ≡ x.before.expected
  pub confirmed : l.confirmed ≡ x.before.confirmed
  pub phase : (l.phase ≡ x.before.phase) ⊎ (waits l.phase ≡ true)
  pub reached : Reached x l n ps

pub record Hearing (x : Round) (g : Ghost) (ps : List Pdu) (l : LinkState) : Type 0 where
  pub is : Joined x.now l
  pub first : x.voice.first ≡ l.partner_first
  pub partner_first : x.voice.partner_first ≡ l.own_first
  pub receiver : x.voice.receiver ≡ l.identity.own
  pub sender : x.voice.sender ≡ l.identity.partner
  pub some : 1 ≤ l.expected
  pub most : l.expected ≤ x.end
  pub kept_is : l.partner_stamp ≡ stamp g.kept
  pub kept_before : g.kept ≤ x.said_at
  pub since : x.kept ≤ g.kept
  pub counts : x.confirmed < l.sent
  pub number : ℕ
  pub count : ℕ
  pub reading : ℕ
  pub chain : Chain x.voice number count reading ps x.end x.confirmed x.returned
  pub low : x.now < reading + 2 ^ 31
  pub mode : Mode x g.tuned g.kept l number count reading ps
  pub plain : Each IsPlainPdu x.pdus → Each IsPlainPdu ps
  pub from_number : x.number ≤ number
  pub from_count : x.count ≤ count
  pub from_reading : x.reading ≤ reading
  pub deaf : g.tuned ≡ false → Deaf x l number ps
  pub shut : IsShut x → (g.tuned ≡ false) × Shut x l number ps
  pub outdated_on : x.tuned ≡ false → IsOutdated x x.before → (g.tuned ≡ false) × IsOutdated x l × (l.phase ≡ x.before.phase)

pub record Answers (x : Round) (g : Ghost) (l : LinkState) (ps : List Pdu) (h : Ghost) (k : LinkState) : Type 0 where
  pub goes : Goes x.now l ps k
  pub rises : l.expected ≤ k.expected
  pub chain : Chain (voice_of l) l.sent (l.expected - 1) g.kept ps k.sent (k.expected - 1) h.kept
  pub stays_tuned : g.tuned ≡ true → h.tuned ≡ true
  pub plain : g.tuned ≡ true → Each IsPlainPdu ps
  pub calm : g.tuned ≡ true → Each IsPlainPdu x.pdus → ps ≡ []
  -- one that isn't tuned answers none that asks, and one that waits says nothing
  pub hush : h.tuned ≡ false → Each IsNoAnswerPdu ps
  pub hush_plain : Each IsPlainPdu x.pdus → Each IsNoAnswerPdu ps
  pub waits_on : waits l.phase ≡ true → h.tuned ≡ false → (waits k.phase ≡ true) × (ps ≡ [])
  pub mute : h.tuned ≡ false → waits k.phase ≡ false → ps ≡ []

pub answers_none : (x : Round) (g : Ghost) (l : LinkState) → Answers x g l [] g l
answers_none x g l = record { goes = goes_none x.now l; rises = omega arith; chain = (refl, omega arith, omega arith); stays_tuned = λ e. e; plain = λ e. tt; calm = λ e p. refl; hush = λ e. tt; hush_plain = λ p. tt; waits_on = λ w e. (w, refl); mute = λ e w. refl }

pub answers_then : (x : Round) (g h i : Ghost) (l k j : LinkState) (ps qs : List Pdu) → Answers x g l ps h k → Answers x h k qs i j → Answers x g l (ps ++ qs) i j
answers_then x g h i l k j ps qs a b = record {
  goes = goes_then x.now l k j ps qs a.goes b.goes;
  rises = omega (arith, a.rises, b.rises);
  chain = chain_then (voice_of l) _ _ _ k.sent (k.expected - 1) h.kept _ _ _ ps qs a.chain (subst (λ (v : Voice). Chain v k.sent (k.expected - 1) h.kept qs j.sent (j.expected - 1) i.kept) (voice_goes x.now l k ps a.goes) b.chain);
  stays_tuned = λ e. b.stays_tuned (a.stays_tuned e);
  plain = λ e. each_append IsPlainPdu ps qs (a.plain e) (b.plain (a.stays_tuned e));
  calm = λ e p. both (a.calm e p) (b.calm (a.stays_tuned e) p);
  hush = λ e. each_append IsNoAnswerPdu ps qs (a.hush (not_before i.tuned h.tuned e b.stays_tuned)) (b.hush e);
  hush_plain = λ p. each_append IsNoAnswerPdu ps qs (a.hush_plain p) (b.hush_plain p);
  waits_on = λ w e. let y = a.waits_on w (not_before i.tuned h.tuned e b.stays_tuned) in let z = b.waits_on y.0 e in (z.0, both y.1 z.1);
  mute = λ e w. both (a.mute (not_before i.tuned h.tuned e b.stays_tuned) (not_before (waits j.phase) (waits k.phase) w (λ u. (b.waits_on u e).0))) (b.mute e w);
}
  where
    both : ps ≡ [] → qs ≡ [] → ps ++ qs ≡ []
    both e f = cc

module _ (x : Round) (bounds : Bounds x) (g : Ghost) (p : Pdu) (ps : List Pdu) (l : LinkState) (is : Hearing x g (p ∷ ps) l) (room : l.sent < 2147483000) where
  abbrev After : LinkState → List Pdu → Type 0
  After k qs = ((IsSimple p.body → ⊥) × Out x.now k) ⊎ ((h : Ghost) × Hearing x h ps k × Answers x g l qs h k)

  -- what the chain says of this PDU and the others
  module _ (d q : ℕ) (h : is.count ≤ d) (i : is.reading ≤ q) (w : IsWord x.voice is.number d q p) (more : Chain x.voice (is.number + 1) d q ps x.end x.confirmed x.returned) where
    pub before_end : is.number < x.end
    before_end = omega (arith, (chain_ends x.voice (is.number + 1) d q x.end x.confirmed x.returned ps more).0)

    pub d_most : d ≤ x.confirmed
    d_most = (chain_ends x.voice (is.number + 1) d q x.end x.confirmed x.returned ps more).1

    pub q_most : q ≤ x.returned
    q_most = (chain_ends x.voice (is.number + 1) d q x.end x.confirmed x.returned ps more).2

    pub age_is : age p l ≡ x.now - q
    age_is = returned q x.now p l is.is.clock w.returns (omega (arith, q_most, bounds.old)) (omega (arith, is.low, i))

    pub behind_is : behind p l ≡ l.sent - 1 - d
    behind_is = counted x.voice d p l is.partner_first w.confirms (omega (arith, d_most, is.counts)) (omega (arith, room))

    level : l.expected ≡ is.number → ahead p l ≡ 0
    unfolding ahead
    level e = let f = ap (λ (y : ℕ). wire y is.number) is.first in let n = w.numbered.number in omega (arith, e, f, n)

    -- a tuned end takes it
    not_blocked : Tuned l is.number is.count is.reading → Blocked p l → ⊥
    not_blocked t (stranger e) = absurd (cc (e, same_eq p.receiver l.identity.own (w.numbered.receiver ∙ is.receiver)))
    not_blocked t (other e) = absurd (cc (e, same_eq p.sender l.identity.partner (w.numbered.sender ∙ is.sender)))
    not_blocked t (opens e) = e w.numbered.talk
    not_blocked t (far e) = let f = ltb-true 200 (ahead p l) e in omega (arith, f, level t.expected)
    not_blocked t (stale e) = let f = ltb-true (l.clock - l.own_stamp) (age p l) e in omega (arith, f, age_is, is.is.clock, t.own, i)
    not_blocked t (unconfirming e) = let f = ltb-false (behind p l + l.confirmed) l.sent e in omega (arith, f, behind_is, t.confirmed, h, d_most, is.counts)
    not_blocked t (discarded e none) = waits_not_reading l.phase e t.reading

    not_apart : Tuned l is.number is.count is.reading → (ahead p l == 0) ≡ false → ⊥
    not_apart t e = cc (e, same_eq (ahead p l) 0 (level t.expected))

    -- one that isn't tuned lets it be
    lets_be : (b : Bool) → g.tuned ≡ b → (Tuned l is.number is.count is.reading → ⊥) → Mode x g.tuned g.kept l is.number is.count is.reading (p ∷ ps) → (g.tuned ≡ false) × (g.kept ≡ x.kept) × (l.own_stamp ≡ x.own)
    lets_be true e never mode = absurd (never (subst (λ (b : Bool). Mode x b g.kept l is.number is.count is.reading (p ∷ ps)) e mode).0)
    lets_be false e never mode = let m = subst (λ (b : Bool). Mode x b g.kept l is.number is.count is.reading (p ∷ ps)) e mode in (e, m.0, m.1)

    deaf_mode : (k : LinkState) → k.own_stamp ≡ l.own_stamp → (g.tuned ≡ false) × (g.kept ≡ x.kept) × (l.own_stamp ≡ x.own) → Mode x g.tuned g.kept k (is.number + 1) d q ps
    deaf_mode k e m = subst (λ (b : Bool). Mode x b g.kept k (is.number + 1) d q ps) (sym m.0) (m.1, e ∙ m.2)

    -- what one that isn't tuned makes of it
    not_past : g.tuned ≡ false → l.expected ≤ is.number
    not_past e = omega (arith, (is.deaf e).expected, bounds.level, is.from_number)

    pub away : l.expected ≤ is.number → ahead p l ≡ is.number - l.expected
    unfolding ahead
    away le = let f = ap (λ (y : ℕ). wire y is.number) is.first in let n = w.numbered.number in omega (arith, f, n, le, before_end, bounds.fits)

    blocked_by : g.tuned ≡ false → Blocked p l → Reached x l (is.number + 1) ps
    blocked_by deaf (stranger e) = absurd (cc (e, same_eq p.receiver l.identity.own (w.numbered.receiver ∙ is.receiver)))
    blocked_by deaf (other e) = absurd (cc (e, same_eq p.sender l.identity.partner (w.numbered.sender ∙ is.sender)))
    blocked_by deaf (opens e) = absurd (e w.numbered.talk)
    blocked_by deaf (far e) = let f = ltb-true 200 (ahead p l) e in off (omega (arith, f, away (not_past deaf)))
    blocked_by deaf (stale e) = let f = ltb-true (l.clock - l.own_stamp) (age p l) e in low (inl (omega (arith, f, age_is, is.is.clock, is.is.own, i, is.from_reading)))
    blocked_by deaf (unconfirming e) = let f = ltb-false (behind p l + l.confirmed) l.sent e in low (inr (omega (arith, f, behind_is, h, is.from_count, d_most, is.counts)))
    blocked_by deaf (discarded e none) = waiting e

    kept_deaf : Blocked p l → g.tuned ≡ false → Deaf x l (is.number + 1) ps
    kept_deaf b e = let f = is.deaf e in record { expected = f.expected; confirmed = f.confirmed; phase = f.phase; reached = blocked_by e b }

    shut_on : (k : LinkState) → k.expected ≡ l.expected → k.own_stamp ≡ l.own_stamp → k.confirmed ≡ l.confirmed → (waits l.phase ≡ true → waits k.phase ≡ true) → Shut x l is.number (p ∷ ps) → Shut x k (is.number + 1) ps
    shut_on k e o c s (far_off f) = far_off (omega (arith, e, f))
    shut_on k e o c s (outdated (inl f)) = outdated (inl (omega (arith, o, f)))
    shut_on k e o c s (outdated (inr f)) = outdated (inr (omega (arith, c, f)))
    shut_on k e o c s (missed f none) = missed (omega (arith, e, f)) none.1
    shut_on k e o c s (stuck f none) = stuck (s f) none.1
    shut_on k e o c s (nothing f) = absurd (cc f)

    asked_deaf : (k : LinkState) (qs : List Pdu) → Asked l k qs → g.tuned ≡ false → Deaf x k (is.number + 1) ps
    asked_deaf k qs a e = let f = is.deaf e in record {
      expected = ap (λ (j : LinkState). j.expected) a.link ∙ f.expected;
      confirmed = ap (λ (j : LinkState). j.confirmed) a.link ∙ f.confirmed;
      phase = inr (ap (λ (j : LinkState). waits j.phase) a.link);
      reached = waiting (ap (λ (j : LinkState). waits j.phase) a.link);
    }

    still_outdated : (k : LinkState) → k.own_stamp ≡ l.own_stamp → k.confirmed ≡ l.confirmed → IsOutdated x l → IsOutdated x k
    still_outdated k o c (inl f) = inl (omega (arith, o, f))
    still_outdated k o c (inr f) = inr (omega (arith, c, f))

    not_outdated : Passes p l → IsOutdated x l → ⊥
    not_outdated passes (inl f) = let a = fresh_age p l passes.fresh in omega (arith, a, age_is, is.is.clock, is.is.own, q_most, f)
    not_outdated passes (inr f) = let a = ltb-true (behind p l + l.confirmed) l.sent passes.counts in omega (arith, a, behind_is, d_most, is.counts, f)

    kept_hearing : Blocked p l → (g.tuned ≡ false) × (g.kept ≡ x.kept) × (l.own_stamp ≡ x.own) → Hearing x g ps l
    kept_hearing b m = record {
      is = is.is;
      first = is.first;
      partner_first = is.partner_first;
      receiver = is.receiver;
      sender = is.sender;
      some = is.some;
      most = is.most;
      kept_is = is.kept_is;
      kept_before = is.kept_before;
      since = is.since;
      counts = is.counts;
      number = is.number + 1;
      count = d;
      reading = q;
      chain = more;
      low = omega (arith, is.low, i);
      mode = deaf_mode l refl m;
      plain = λ e. (is.plain e).1;
      from_number = omega (arith, is.from_number);
      from_count = omega (arith, is.from_count, h);
      from_reading = omega (arith, is.from_reading, i);
      deaf = kept_deaf b;
      shut = λ s. let y = is.shut s in (y.0, shut_on l refl refl refl (λ f. f) y.1);
      outdated_on = is.outdated_on;
    }

    asked_hearing : Passes p l → (g.tuned ≡ false) × (g.kept ≡ x.kept) × (l.own_stamp ≡ x.own) → (k : LinkState) (qs : List Pdu) → Asked l k qs → Hearing x g ps k
    asked_hearing passes m k qs a = let e = a.link in record {
      is = asked_joined x.now l k qs is.is a;
      first = is.first ∙ sym (ap (λ (j : LinkState). j.partner_first) e);
      partner_first = is.partner_first ∙ sym (ap (λ (j : LinkState). j.own_first) e);
      receiver = is.receiver ∙ sym (ap (λ (j : LinkState). j.identity.own) e);
      sender = is.sender ∙ sym (ap (λ (j : LinkState). j.identity.partner) e);
      some = omega (arith, is.some, ap (λ (j : LinkState). j.expected) e);
      most = omega (arith, is.most, ap (λ (j : LinkState). j.expected) e);
      kept_is = ap (λ (j : LinkState). j.partner_stamp) e ∙ is.kept_is;
      kept_before = is.kept_before;
      since = is.since;
      counts = omega (arith, is.counts, ap (λ (j : LinkState). j.sent) e);
      number = is.number + 1;
      count = d;
      reading = q;
      chain = more;
      low = omega (arith, is.low, i);
      mode = deaf_mode k (ap (λ (j : LinkState). j.own_stamp) e) m;
      plain = λ e. (is.plain e).1;
      from_number = omega (arith, is.from_number);
      from_count = omega (arith, is.from_count, h);
      from_reading = omega (arith, is.from_reading, i);
      deaf = asked_deaf k qs a;
      shut = λ s. let y = is.shut s in (y.0, shut_on k (ap (λ (j : LinkState). j.expected) e) (ap (λ (j : LinkState). j.own_stamp) e) (ap (λ (j : LinkState). j.confirmed) e) (λ f. absurd (cc (f, a.free))) y.1);
      outdated_on = λ f o. absurd (not_outdated passes (is.outdated_on f o).1);
    }

    expected_of : (k : LinkState) (qs : List Pdu) → Asked l k qs → l.expected ≡ k.expected
    expected_of k qs a = sym (ap (λ (j : LinkState). j.expected) a.link)

    no_answer : {qs : List Pdu} → qs ≡ pdu_of (header_of l) l.sent RetransmissionRequest ∷ [] → Each IsNoAnswerPdu qs
    unfolding pdu_of
    no_answer e = subst (Each IsNoAnswerPdu) (sym e) (tt, tt)

    asked_answers : g.tuned ≡ false → (k : LinkState) (qs : List Pdu) → Asked l k qs → Answers x g l qs g k
    asked_answers deaf k qs a = record {
      goes = asked_goes x.now l k qs is.is a;
      rises = omega (arith, expected_of k qs a);
      chain = subst (λ (y : ℕ). Chain (voice_of l) l.sent (l.expected - 1) g.kept qs k.sent (y - 1) g.kept) (expected_of k qs a)
          (asked_chain x.now g.kept l k qs is.is a is.some (omega (arith, is.most, bounds.fits)) is.kept_is);
      stays_tuned = λ e. e;
      plain = λ e. absurd (cc (e, deaf));
      calm = λ e p. absurd (cc (e, deaf));
      hush = λ e. no_answer a.pdus;
      hush_plain = λ p. no_answer a.pdus;
      waits_on = λ w e. absurd (cc (w, a.free));
      mute = λ e w. absurd (cc (w, ap (λ (j : LinkState). waits j.phase) a.link));
    }

    abbrev taken_next : Ghost
    taken_next = record { kept = x.said_at; tuned = true }

    module _ (k : LinkState) (qs : List Pdu) (passes : Passes p l) (t : Taken p l k qs) where
      at_place : (l.expected ≤ is.number) × (wire l.expected (ahead p l + 1) ≡ is.number + 1)
      at_place = placed x.voice is.number x.end p l is.first w.numbered.number before_end bounds.fits is.most passes.near

      stamped : p.time_stamp ≡ stamp x.said_at
      stamped = w.numbered.stamped ∙ bounds.stamped

      answered : Chain (voice_of l) l.sent is.number x.said_at qs k.sent is.number x.said_at
      answered = answers_chain x.now is.number x.said_at p l k qs is.is t at_place.1 (omega (arith, before_end, bounds.fits)) stamped

      no_answer_taken : Each IsNoAnswerPdu (p ∷ ps) → ((ahead p l == 0) ≡ false) ⊎ (waits l.phase ≡ true) → ⊥
      no_answer_taken none never = by t.turn never
        where
          by : (p.body ≡ RetransmissionResponse) ⊎ InTurn p l → ((ahead p l == 0) ≡ false) ⊎ (waits l.phase ≡ true) → ⊥
          by (inl e) v = subst IsNoAnswer e none.0
          by (inr (at, free)) (inl v) = cc (at, v)
          by (inr (at, free)) (inr v) = cc (free, v)

      not_shut : Shut x l is.number (p ∷ ps) → ⊥
      not_shut (far_off f) = let a = ltb-false 200 (ahead p l) passes.near in omega (arith, a, away at_place.0, f)
      not_shut (outdated f) = not_outdated passes f
      not_shut (missed f none) = no_answer_taken none (inl (not_zero (ahead p l) (omega (arith, away at_place.0, f))))
      not_shut (stuck f none) = no_answer_taken none (inr f)
      not_shut (nothing f) = cc f

      taken_hearing : Hearing x taken_next ps k
      taken_hearing = record {
        is = taken_joined x.now p l k qs is.is passes t;
        first = is.first ∙ sym t.stays.partner_first;
        partner_first = is.partner_first ∙ sym t.stays.own_first;
        receiver = is.receiver ∙ sym (ap (λ (y : Identity). y.own) t.stays.identity);
        sender = is.sender ∙ sym (ap (λ (y : Identity). y.partner) t.stays.identity);
        some = omega (arith, t.expected, at_place.1);
        most = omega (arith, t.expected, at_place.1, before_end);
        kept_is = t.partner_stamp ∙ stamped;
        kept_before = omega arith;
        since = bounds.kept;
        counts = omega (arith, is.counts, (chain_ends (voice_of l) l.sent is.number x.said_at k.sent is.number x.said_at qs answered).0);
        number = is.number + 1;
        count = d;
        reading = q;
        chain = more;
        low = omega (arith, is.low, i);
        mode = (
          record {
            reading = t.reading;
            expected = t.expected ∙ at_place.1;
            confirmed = omega (arith, t.confirmed, behind_is, d_most, is.counts);
            own = omega (arith, t.own_stamp, age_is, is.is.clock, q_most, bounds.old);
          },
          inl (refl, omega (arith, t.own_stamp, age_is, is.is.clock, q_most, bounds.old, is.from_reading, i)),
        );
        plain = λ e. (is.plain e).1;
        from_number = omega (arith, is.from_number);
        from_count = omega (arith, is.from_count, h);
        from_reading = omega (arith, is.from_reading, i);
        deaf = λ e. absurd (cc e);
        shut = λ s. absurd (not_shut (is.shut s).1);
        outdated_on = λ f o. absurd (not_outdated passes (is.outdated_on f o).1);
      }

      taken_answers : Answers x g l qs taken_next k
      taken_answers = record {
        goes = taken_goes x.now p l k qs is.is t;
        rises = omega (arith, t.expected, at_place.0, at_place.1);
        chain = chain_lower (voice_of l) l.sent l.sent is.number (l.expected - 1) x.said_at g.kept qs k.sent (k.expected - 1) x.said_at refl (omega (arith, at_place.0)) is.kept_before
            (subst (λ (y : ℕ). Chain (voice_of l) l.sent is.number x.said_at qs k.sent y x.said_at) (omega (arith, t.expected, at_place.1)) answered);
        stays_tuned = λ e. refl;
        plain = λ e. says_plain _ _ _ qs t.answers;
        calm = λ e pl. t.calm (is.plain pl).0;
        hush = λ e. absurd (cc e);
        hush_plain = λ pl. subst (Each IsNoAnswerPdu) (sym (t.calm (is.plain pl).0)) tt;
        waits_on = λ w e. absurd (cc e);
        mute = λ e w. absurd (cc e);
      }

    deed_after : (k : LinkState) (qs : List Pdu) → Deed p l k qs → After k qs
    deed_after k qs (leaves why left) = inl (why, record { clock = left.clock ∙ is.is.clock; is_out = left.is_out; quiet = omega (arith, left.closed_at, is.is.clock); lately = omega (arith, left.closed_at, is.is.clock) })
    deed_after k qs (keeps b same none) =
        let m = lets_be g.tuned refl (λ t. not_blocked t b) is.mode in
        inr (
          g,
          subst (Hearing x g ps) (sym same) (kept_hearing b m),
          subst (λ (j : LinkState). Answers x g l qs g j) (sym same) (subst (λ (rs : List Pdu). Answers x g l rs g l) (sym none) (answers_none x g l)),
        )
    deed_after k qs (asks passes apart a) = let m = lets_be g.tuned refl (λ t. not_apart t apart) is.mode in inr (g, asked_hearing passes m k qs a, asked_answers m.0 k qs a)
    deed_after k qs (takes passes t) = inr (taken_next, taken_hearing k qs passes t, taken_answers k qs passes t)

  after : (k : LinkState) (qs : List Pdu) → Deed p l k qs → After k qs
  after k qs deed = cell is.chain
    where
      cell : Chain x.voice is.number is.count is.reading (p ∷ ps) x.end x.confirmed x.returned → After k qs
      cell (d, q, h, i, w, more) = deed_after d q h i w more k qs deed

-- what one PDU comes to at an end with room: a heartbeat and new items never make it leave
pub tunes_one : (x : Round) → Bounds x → (g : Ghost) (p : Pdu) (ps : List Pdu) (l : LinkState) → Hearing x g (p ∷ ps) l → l.sent < 2147483000
    → ((IsSimple p.body → ⊥) × Out x.now (heard x.now p l).link) ⊎ ((h : Ghost) × Hearing x h ps (heard x.now p l).link × Answers x g l (heard x.now p l).pdus h (heard x.now p l).link)
tunes_one x bounds g p ps l is room = after x bounds g p ps l is room (heard x.now p l).link (heard x.now p l).pdus
    (subst (λ (s : Step). Deed p l s.link s.pdus) (sym same) (hears p l is.is.connected is.is.joined (omega (arith, is.is.young, is.is.clock))))
  where
    same : heard x.now p l ≡ record { link = (hearing p l).link; pdus = (hearing p l).pdus }
    same = heard_lives x.now p l (record { connected = is.is.connected; young = is.is.young; room = room })
        ∙ ap (λ (k : LinkState). record { link = (hearing p k).link; pdus = (hearing p k).pdus }) (same_clock x.now l is.is.clock)

pub tune_step : (x : Round) → Bounds x → (g : Ghost) (p : Pdu) (ps : List Pdu) (l : LinkState) → Hearing x g (p ∷ ps) l → Next Ghost x.now (Hearing x) (Answers x) g l ps (heard x.now p l)
tune_step x bounds g p ps l is = choose (heard_case x.now p l (lively x.now l is.is))
  where
    next : ((IsSimple p.body → ⊥) × Out x.now (heard x.now p l).link) ⊎ ((h : Ghost) × Hearing x h ps (heard x.now p l).link × Answers x g l (heard x.now p l).pdus h (heard x.now p l).link) → Next Ghost x.now (Hearing x) (Answers x) g l ps (heard x.now p l)
    next (inl left) = gone_next left.1
    next (inr (h, a, b)) = stays_next h a b

    choose : Out x.now (heard x.now p l).link ⊎ ((l.sent < 2147483000) × ((heard x.now p l).link ≡ (hearing p l).link) × ((heard x.now p l).pdus ≡ (hearing p l).pdus)) → Next Ghost x.now (Hearing x) (Answers x) g l ps (heard x.now p l)
    choose (inl left) = gone_next left
    choose (inr (room, e, f)) = next (after x bounds g p ps l is room (heard x.now p l).link (heard x.now p l).pdus
        (two e f (hears p l is.is.connected is.is.joined (omega (arith, is.is.young, is.is.clock)))))
      where
        two : (heard x.now p l).link ≡ (hearing p l).link → (heard x.now p l).pdus ≡ (hearing p l).pdus → Deed p l (hearing p l).link (hearing p l).pdus → Deed p l (heard x.now p l).link (heard x.now p l).pdus
        two e f deed = subst (λ (k : LinkState). Deed p l k (heard x.now p l).pdus) (sym e) (subst (λ (qs : List Pdu). Deed p l (hearing p l).link qs) (sym f) deed)

-- all that its partner said in the last round
pub tunes : (x : Round) → Bounds x → (g : Ghost) (ps : List Pdu) (l : LinkState) → Hearing x g ps l → Next Ghost x.now (Hearing x) (Answers x) g l [] (all_heard x.now ps l)
tunes x bounds g ps l is = all_hear Ghost x.now (Hearing x) (Answers x) (λ h k a. answers_none x h k) (λ g h i l k j ps qs a b. answers_then x g h i l k j ps qs a b) (tune_step x bounds) ps g l is
