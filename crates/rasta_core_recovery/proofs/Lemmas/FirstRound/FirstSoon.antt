-- An end that took one of the first round and waits takes the rest soon, for its partner answers.
use Rattle.rasta_core_recovery.proofs.Words.Basics.{◌≡◌, ℕ, zero, suc, ◌∙◌, ◌+◌, ◌-◌, ◌*◌, ◌^◌, ◌≤◌, ◌<◌, Bool, true, false, nat_lt, List, [], ◌∷◌, ◌++◌, length, refl, arith, ltb-true, ltb-false}
use Rattle.rasta_core_recovery.proofs.Words.Links.{LinkState, is_open, Pdu, RetransmissionResponse, Role, Names}
use Rattle.rasta_core_recovery.proofs.Lemmas.Rounds.Blocks.{as_many_both}
use Rattle.rasta_core_recovery.proofs.Lemmas.ComingUp.Converse.{Are, Way, round_of}
use Rattle.rasta_core_recovery.proofs.Lemmas.FirstRound.FirstAnswered.{answered_way, chain_long}
use Rattle.rasta_core_recovery.proofs.Lemmas.FirstRound.FirstNew.{StandsAt}
use Rattle.rasta_core_recovery.proofs.Lemmas.ComingUp.Healthy.{waits}
use Rattle.rasta_core_recovery.proofs.Lemmas.Rounds.Links.{end_round}
use Rattle.rasta_core_recovery.proofs.Lemmas.Rounds.Steps.{FewMarks, few_behind, stands_behind}
use Rattle.rasta_core_recovery.proofs.Lemmas.ComingUp.TunedEnds.{Deaf}
use Rattle.rasta_core_recovery.proofs.Lemmas.Rounds.Words.{chain_ends, voice_of}

-- ---- an end that waits since a round, and that has missed nothing that answers

pub stands_before : (xs ys : List Pdu) (i : ℕ) (p : Pdu) → StandsAt i p xs → StandsAt i p (xs ++ ys)
stands_before [] ys i p is = absurd is
stands_before (x ∷ xs) ys zero p is = is
stands_before (x ∷ xs) ys (suc i) p is = stands_before xs ys i p is

-- the PDU of this number, if it is among these, answers
abbrev pub AnswersAt : ℕ → ℕ → List Pdu → Type 0
AnswersAt n a ps = (i : ℕ) (p : Pdu) → n + i ≡ a → StandsAt i p ps → p.body ≡ RetransmissionResponse

-- these have come since it waits, from this number on
pub record Held (n k : ℕ) (before : List Pdu) (l : LinkState) (number count reading : ℕ) : Type 0 where
  pub waiting : waits l.phase ≡ true
  pub own : l.own_stamp ≤ reading
  pub counts : l.confirmed ≤ count
  pub expected : l.expected ≡ n
  pub from : n + length before ≡ number
  pub near : number ≤ n + 67 * k
  pub unanswered : (a : ℕ) → n ≤ a → a < number → AnswersAt n a before → ⊥

module _ (names : Names) (who : Role) (start own_start : ℕ) (other_tuned : Bool) (kept other_kept : ℕ) (l m : LinkState) (ps qs : List Pdu) (are : Are names who l m)
    (there : Way start own_start false kept other_kept l m ps) (back : Way own_start start other_tuned other_kept kept m l qs) (fits : m.sent < 2 ^ 31) (short : l.clock ≤ own_start + 100000) where
  pub held_on : (n k : ℕ) (before : List Pdu) → k ≤ 2 → (held : Held n k before l there.number there.count there.reading) → FewMarks 0 (before ++ ps) → (FewMarks 0 ps → length ps ≤ 67)
      → is_open (end_round (l.clock + 10) ps l).link.phase ≡ true → waits (end_round (l.clock + 10) ps l).link.phase ≡ true → (end_round (l.clock + 10) ps l).link.own_stamp ≡ l.own_stamp
      → Deaf (round_of false kept other_kept l m ps there.number there.count there.reading) (end_round (l.clock + 10) ps l).link m.sent []
      → Held n (suc k) (before ++ ps) (end_round (l.clock + 10) ps l).link m.sent (m.expected - 1) other_kept
  held_on n k before soon held marks few then_in waiting own deaf = record {
    waiting = waiting;
    own = omega (arith, own, held.own, ends.2);
    counts = omega (arith, deaf.confirmed, held.counts, ends.1);
    expected = deaf.expected ∙ held.expected;
    from = (let b = as_many_both before ps in let f = held.from in omega (arith, b, f, long));
    near = (let c = held.near in omega (arith, c, long, short_list));
    unanswered = unanswered;
  }
    where
      long : there.number + length ps ≡ m.sent
      long = chain_long (voice_of m) there.number there.count there.reading m.sent (m.expected - 1) other_kept ps there.chain

      ends : (there.number ≤ m.sent) × (there.count ≤ m.expected - 1) × (there.reading ≤ other_kept)
      ends = chain_ends (voice_of m) there.number there.count there.reading m.sent (m.expected - 1) other_kept ps there.chain

      short_list : length ps ≤ 67
      short_list = few (few_behind before ps 0 0 (omega arith) marks)

      unanswered : (a : ℕ) → n ≤ a → a < m.sent → AnswersAt n a (before ++ ps) → ⊥
      unanswered a from below answers = choose (nat_lt a there.number) refl
        where
          choose : (b : Bool) → nat_lt a there.number ≡ b → ⊥
          choose true e = held.unanswered a from (ltb-true _ _ e) (λ i p at stands. answers i p at (stands_before before ps i p stands))
          choose false e = let past = ltb-false _ _ e in omega (
            arith,
            from,
            below,
            deaf.expected,
            held.expected,
            answered_way names who start own_start false other_tuned kept other_kept l m ps qs are there back fits short held.waiting held.own held.counts a (omega (arith, past)) below
                (let c = held.near in omega (arith, below, soon, c, long, short_list, held.expected))
                (λ i p at stands. answers (length before + i) p (let f = held.from in omega (arith, at, f)) (stands_behind before ps i p stands)) then_in,
          )
