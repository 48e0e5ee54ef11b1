-- How few PDUs an end says in a round, where few of them ask or answer.
use Rattle.rasta_core_recovery.proofs.Words.Basics.{◌≡◌, ℕ, zero, suc, ◌∙◌, ◌+◌, ◌-◌, ◌≤◌, true, List, [], ◌∷◌, ◌++◌, length, drop, refl, ap, subst, arith, length-drop}
use Rattle.rasta_core_recovery.proofs.Words.Links.{settled, Names, Ends, LinkState, is_open, Pdu, Timely, Plays, joined, left, EndFlow, Waits, AreTogether, Ordered}
use Rattle.rasta_core.specs.LinkAndFlow.{asking}
use Rattle.rasta_core_recovery.proofs.Lemmas.Rounds.Blocks.{as_many_both}
use Rattle.rasta_core_recovery.proofs.Lemmas.Rounds.Course.{Joined}
use Rattle.rasta_core_recovery.proofs.Lemmas.Rounds.Facts.{are_together}
use Rattle.rasta_core_recovery.proofs.Lemmas.FirstRound.FirstNew.{StandsAt}
use Rattle.rasta_core_recovery.proofs.Lemmas.FirstRound.FirstSoon.{stands_before}
use Rattle.rasta_core_recovery.proofs.Lemmas.FirstRound.FirstTakes.{IsShort}
use Rattle.rasta_core_recovery.proofs.Lemmas.Rounds.Fold.{Begins, begins, late, on, stays_out}
use Rattle.rasta_core_recovery.proofs.Lemmas.Rounds.Links.{end_round}
use Rattle.rasta_core_recovery.proofs.Lemmas.Rounds.Steps.{FewMarks, InSteps, few_steps, round_in_steps}
use Rattle.rasta_core_recovery.proofs.Lemmas.Rounds.Turn.{Either, gone, so}

-- ---- few items wait at each end

few_of : (l : LinkState) (part other : EndFlow) → is_open l.phase ≡ true → Waits part → Plays l part other → length l.waiting ≤ 20
few_of l part other is_in waits (joined h) = omega (arith, ap length h.inside.keeps.waiting, waits.few)
few_of l part other is_in waits (asking a) = omega (arith, ap length a.inside.keeps.waiting, waits.few)
few_of l part other is_in waits (left out keeps) = absurd (cc (out, is_in))

pub few_wait : (names : Names) (ends : Ends) → Timely names ends → Ordered names ends → is_open ends.client.link.phase ≡ true → is_open ends.server.link.phase ≡ true
    → (length ends.client.link.waiting ≤ 20) × (length ends.server.link.waiting ≤ 20)
few_wait names ends timely ordered client_in server_in = by (are_together names ends timely ordered client_in server_in)
  where
    by : AreTogether names ends → (length ends.client.link.waiting ≤ 20) × (length ends.server.link.waiting ≤ 20)
    by t = (few_of ends.client.link t.client t.server client_in t.order.there.waits t.client_plays, few_of ends.server.link t.server t.client server_in t.order.back.waits t.server_plays)

-- ---- a list after so many

stands_drop : (from i : ℕ) (p : Pdu) (ps : List Pdu) → from ≤ i → StandsAt i p ps → StandsAt (i - from) p (drop from ps)
stands_drop zero i p ps le is = let e : i ≡ i - 0 = omega arith in subst (λ (m : ℕ). StandsAt m p ps) e is
stands_drop (suc from) i p [] le is = absurd is
stands_drop (suc from) zero p (x ∷ ps) le is = absurd (omega (arith, le))
stands_drop (suc from) (suc i) p (x ∷ ps) le is = let e : i - from ≡ suc i - suc from = omega arith in
    subst (λ (m : ℕ). StandsAt m p (drop from ps)) e (stands_drop from i p ps (omega (arith, le)) is)

few_all : (from : ℕ) (ps : List Pdu) → FewMarks 0 (drop from ps) → FewMarks from ps
few_all from ps f = record {
  one_ask = λ i j p q a b s t e g. let same = f.one_ask (i - from) (j - from) p q (omega arith) (omega arith) (stands_drop from i p ps a s) (stands_drop from j q ps b t) e g in
      omega (arith, same, a, b);
  one_answer = λ i j p q a b s t e g. let same = f.one_answer (i - from) (j - from) p q (omega arith) (omega arith) (stands_drop from i p ps a s) (stands_drop from j q ps b t) e g in
      omega (arith, same, a, b);
}

few_front : (xs ys : List Pdu) (from : ℕ) → FewMarks from (xs ++ ys) → FewMarks from xs
few_front xs ys from f = record {
  one_ask = λ i j p q a b s t e g. f.one_ask i j p q a b (stands_before xs ys i p s) (stands_before xs ys j q t) e g;
  one_answer = λ i j p q a b s t e g. f.one_answer i j p q a b (stands_before xs ys i p s) (stands_before xs ys j q t) e g;
}

-- what an end says in a round is short, but for so many
short_of : (now : ℕ) (ps : List Pdu) → InSteps now ps → (from : ℕ) → IsShort (drop from ps)
short_of now ps is from few = omega (arith, whole, front_few, is.few, dropped)
  where
    front_few : length is.front ≤ from + 66
    front_few = few_steps is.front from is.steps (few_front is.front is.back from (subst (FewMarks from) is.are (few_all from ps few)))

    whole : length ps ≡ length is.front + length is.back
    whole = ap (λ (xs : List Pdu). length xs) is.are ∙ as_many_both is.front is.back

    dropped : length (drop from ps) ≡ length ps - from
    dropped = length-drop from ps

pub short_round : (ps : List Pdu) (l : LinkState) → Joined l.clock l → length l.waiting ≤ 20 → is_open (end_round (l.clock + 10) ps l).link.phase ≡ true → (from : ℕ)
    → IsShort (drop from (end_round (l.clock + 10) ps l).pdus)
short_round ps l is few then_in from = choose (round_in_steps (l.clock + 10) ps l refl is few)
  where
    choose : Either (l.clock + 10) (end_round (l.clock + 10) ps l).link (InSteps (l.clock + 10) (end_round (l.clock + 10) ps l).pdus) → IsShort (drop from (end_round (l.clock + 10) ps l).pdus)
    choose (gone out) = absurd (cc (out.is_out, then_in))
    choose (so s) = short_of (l.clock + 10) (end_round (l.clock + 10) ps l).pdus s from

-- the time that passes takes nothing away from what it has said
pub sent_settled : (now : ℕ) (ps : List Pdu) (l : LinkState) → now ≡ l.clock + 10 → Joined l.clock l → is_open (end_round now ps l).link.phase ≡ true → (settled now l).sent ≡ l.sent
sent_settled now ps l at is then_in = choose (begins now l at is.connected is.young)
  where
    choose : Begins now l → (settled now l).sent ≡ l.sent
    choose (late out) = absurd (let o = stays_out now ps l out in cc (o.is_out, then_in))
    choose (on e young) = ap (λ (k : LinkState). k.sent) e
