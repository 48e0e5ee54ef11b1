-- What stays true of one direction of a connection while its taker sends, asks, and takes.
use Rattle.std.proofs.Common.{◌≡◌, ℕ, ◌+◌, ◌<◌, ◌≤◌, true, false, List, [], ◌∷◌, ◌++◌, take, ◌⊎◌, inl, inr, refl, sym, ap, ◌∙◌, arith}
use Rattle.rasta_core_spec.specs.pdu.Pdu.{Pdu}
use Rattle.rasta_core_spec.specs.body.Body.TheVariants.{RetransmissionRequest, RetransmissionResponse}
use Rattle.rasta_core_spec.specs.window.Unconfirmed.{Unconfirmed}
use Rattle.rasta_core.specs.EndFlow.{IsAt, EndFlow, sent}
use Rattle.rasta_core.specs.Order.{Brings, IsAsking, Way}
use Rattle.rasta_core.proofs.Places.{split, within, only_one, IsAfter}
use Rattle.rasta_core.proofs.GiverGrowth.{HasNo}

-- a part that has sent more, with its own items; what it took is as it was
abbrev pub replaced : EndFlow → List Pdu → (ℕ → ℕ) → (ℕ → ℕ) → List (List ℕ) → List Unconfirmed → EndFlow
replaced part flow passed expecting given waiting = record part { flow = flow; passed = passed; expecting = expecting; given = given; waiting = waiting }

-- the taker has sent more, but for a retransmission request
module _ (giver taker : EndFlow) (way : Way giver taker) (more : List Pdu) (passed expecting : ℕ → ℕ) (given : List (List ℕ)) (waiting : List Unconfirmed)
    (same : (number : ℕ) → number < sent taker → expecting number ≡ taker.expecting number) (no_request : HasNo RetransmissionRequest more) where
  asking_only : (place : ℕ)
      → ((number : ℕ) (pdu : Pdu) → IsAt number pdu taker.flow → pdu.body ≡ RetransmissionRequest → giver.reached ≤ number → number ≡ place)
      → (number : ℕ) (pdu : Pdu) → IsAt number pdu taker.flow ⊎ IsAfter number pdu taker.flow more → pdu.body ≡ RetransmissionRequest → giver.reached ≤ number → number ≡ place
  asking_only place only number pdu (inl at) body from = only number pdu at body from
  asking_only place only number pdu (inr (next, is, at)) body from = absurd (no_request next pdu at body)

  asking_kept : (place : ℕ) (pdu : Pdu) → IsAt place pdu taker.flow ⊎ IsAfter place pdu taker.flow more → pdu.body ≡ RetransmissionRequest → giver.reached ≤ place
      → IsAsking giver (replaced taker (taker.flow ++ more) passed expecting given waiting) place
  asking_kept place pdu (inl at) body from =
      let was = way.askings place pdu at body from
      in record {
        waiting = was.waiting;
        still = same place (within place pdu taker.flow at) ∙ was.still;
        unanswered = was.unanswered;
        only = λ number other there. asking_only place was.only number other (split number other taker.flow more there);
      }
  asking_kept place pdu (inr (next, is, at)) body from = absurd (no_request next pdu at body)

  pub taker_sent : Way giver (replaced taker (taker.flow ++ more) passed expecting given waiting)
  taker_sent = record {
    counts = way.counts;
    each = way.each;
    waits = way.waits;
    taken = way.taken;
    level = way.level;
    ahead = way.ahead;
    answers = way.answers;
    askings = λ place pdu at. asking_kept place pdu (split place pdu taker.flow more at);
  }

-- an end that reads has asked for nothing, and no answer comes
module _ (giver taker : EndFlow) (way : Way giver taker) (reading : taker.reading ≡ true) where
  pub no_answer : (place : ℕ) (pdu : Pdu) → IsAt place pdu giver.flow → pdu.body ≡ RetransmissionResponse → taker.reached ≤ place → ⊥
  no_answer place pdu at body from = let was = way.answers place pdu at body from in cc (reading, was.waited_for)

  pub no_asking : (place : ℕ) (pdu : Pdu) → IsAt place pdu taker.flow → pdu.body ≡ RetransmissionRequest → giver.reached ≤ place → ⊥
  no_asking place pdu at body from = let was = way.askings place pdu at body from in cc (reading, was.waiting)

-- an end that asks for a retransmission waits from then on
abbrev pub waits_for : Pdu → (ℕ → ℕ) → (ℕ → ℕ) → EndFlow → EndFlow
waits_for asked passed expecting part = record (replaced part (part.flow ++ asked ∷ []) passed expecting part.given part.waiting) { reading = false }

-- an end asks for a retransmission
module _ (giver taker : EndFlow) (way : Way giver taker) (reading : taker.reading ≡ true) (asked : Pdu) (passed expecting : ℕ → ℕ)
    (same : (number : ℕ) → number < sent taker → expecting number ≡ taker.expecting number) (here : expecting (sent taker) ≡ taker.reached) where
  its_place : (number : ℕ) (pdu : Pdu) → IsAt number pdu taker.flow ⊎ IsAfter number pdu taker.flow (asked ∷ []) → pdu.body ≡ RetransmissionRequest → giver.reached ≤ number
      → number ≡ sent taker
  its_place number pdu (inl at) body from = absurd (no_asking giver taker way reading number pdu at body from)
  its_place number pdu (inr (next, is, at)) body from = omega (arith, is, (only_one next pdu asked at).0)

  pub taker_asked : Way giver (waits_for asked passed expecting taker)
  taker_asked = record {
    counts = way.counts;
    each = way.each;
    waits = way.waits;
    taken = way.taken;
    level = way.level;
    ahead = λ reads. absurd (cc (reads));
    answers = λ place pdu at body from. absurd (no_answer giver taker way reading place pdu at body from);
    askings = λ place pdu at body from.
        let is : place ≡ sent taker = its_place place pdu (split place pdu taker.flow (asked ∷ []) at) body from
        in record {
          waiting = refl;
          still = ap expecting is ∙ here;
          unanswered = λ number other there other_body. not_from number other there other_body;
          only = λ number other there other_body other_from.
              its_place number other (split number other taker.flow (asked ∷ []) there) other_body other_from ∙ sym is;
        };
  }
    where
      lt_or_le : (a b : ℕ) → (a < b) ⊎ (b ≤ a)
      lt_or_le a b = grind arith

      not_from : (number : ℕ) (pdu : Pdu) → IsAt number pdu giver.flow → pdu.body ≡ RetransmissionResponse → number < taker.reached
      not_from number pdu at body = elim (lt_or_le number taker.reached) [
        | inl before ↦ before
        | inr from ↦ absurd (no_answer giver taker way reading number pdu at body from)
      ]

-- what waits at the taker doesn't matter
abbrev pub holding : List Unconfirmed → EndFlow → EndFlow
holding waiting part = record part { waiting = waiting }

pub taker_held : (giver taker : EndFlow) (waiting : List Unconfirmed) → Way giver taker → Way giver (holding waiting taker)
taker_held giver taker waiting way = record {
  counts = way.counts;
  each = way.each;
  waits = way.waits;
  taken = way.taken;
  level = way.level;
  ahead = way.ahead;
  answers = way.answers;
  askings = λ place pdu at body from.
      let was = way.askings place pdu at body from
      in record { waiting = was.waiting; still = was.still; unanswered = was.unanswered; only = was.only };
}

-- an end takes the PDU that it expects
abbrev pub took : List (List ℕ) → EndFlow → EndFlow
took items part = record part { reached = part.reached + 1; taken = part.taken ++ items }

pub taker_took : (giver taker : EndFlow) (items : List (List ℕ)) → Way giver taker → taker.reading ≡ true → taker.reached < sent giver
    → Brings giver taker.reached items → Way giver (took items taker)
taker_took giver taker items way reading lt brings = record {
  counts = record { fits = way.counts.fits; some = omega arith; most = omega arith; all = way.counts.all; passed = way.counts.passed };
  each = way.each;
  waits = way.waits;
  taken = ap (λ before. before ++ items) way.taken ∙ sym brings.1;
  level = way.ahead reading (taker.reached + 1) (omega arith) (omega arith);
  ahead = λ reads number from most. way.ahead reading number (omega arith) most;
  answers = λ place pdu at body from. absurd (no_answer giver taker way reading place pdu at body (omega arith));
  askings = λ place pdu at body from. absurd (no_asking giver taker way reading place pdu at body from);
}

-- an end that asked takes the answer, and goes on from there
abbrev pub resumed : ℕ → EndFlow → EndFlow
resumed place part = record part { reached = place + 1; reading = true }

pub taker_resumed : (giver taker : EndFlow) (place : ℕ) (pdu : Pdu) → Way giver taker → IsAt place pdu giver.flow → pdu.body ≡ RetransmissionResponse
    → taker.reached ≤ place → Way giver (resumed place taker)
taker_resumed giver taker place pdu way at body from =
    let was = way.answers place pdu at body from
    in let lt = within place pdu giver.flow at
    in record {
      counts = record { fits = way.counts.fits; some = omega arith; most = omega (arith, lt); all = way.counts.all; passed = way.counts.passed };
      each = way.each;
      waits = way.waits;
      taken = way.taken ∙ ap (λ number. take number giver.given) (sym was.from);
      level = was.level (place + 1) (omega arith) (omega (arith, lt));
      ahead = λ reads number above most. was.level number (omega arith) most;
      answers = λ other there at_other is_response above. absurd (omega (arith, was.only other there at_other is_response (omega arith)));
      askings = λ other there at_other is_request above.
          absurd (omega (arith, (way.askings other there at_other is_request above).unanswered place pdu at body));
    }
