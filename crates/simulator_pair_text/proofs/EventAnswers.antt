-- What a pair says to an event is an answer of it.
use Rattle.std.proofs.Common.{◌≡◌, ℕ, None, Some, Result, Ok, Err, sym, subst, inl, inr}
use Rattle.std.specs.Prelude.{◌⊎◌, OnOk, OnErr, IfOk, IfErr}
use Rattle.simulator_pair.specs.Pair.{PairState}
use Rattle.simulator_pair.specs.Events.{refusal, happens, reply_to}
use Rattle.simulator_pair.specs.declared.event.PairEvent.{PairEvent}
use Rattle.simulator_pair.specs.declared.event.PairReply.{PairReply}
use Rattle.simulator_pair.specs.refused.Refused.{Refused}
use Rattle.simulator_pair.specs.refused.Refused.TheVariants.{OutOfMemory}
use Rattle.simulator_pair_text.specs.Answers.{answer_to}
use Rattle.simulator_pair_text.specs.Flow.{Flowing}
use Rattle.simulator_pair_text.specs.Transcript.{Answers, refuses, happens_so, lacks_memory}

-- so far as the flows have come
abbrev pub at : ℕ → PairState → Flowing
at passed pair = record { pair = pair; passed = passed }

-- what `apply` ensures of an event
pub record Applied (event : PairEvent) (old new : PairState) (result : Result PairReply Refused) : Type 0 where
  pub step : OnOk result (new ≡ happens event old)
  pub reply : IfOk result (λ reply. reply ≡ reply_to event old)
  pub allowed : OnOk result (refusal event old.ends ≡ None)
  pub refused : IfErr result (λ why. (refusal event old.ends ≡ Some why) ⊎ ((why ≡ OutOfMemory) × (refusal event old.ends ≡ None)))
  pub same : OnErr result (new ≡ old)

pub answers : (event : PairEvent) (passed : ℕ) (old new : PairState) (result : Result PairReply Refused) → Applied event old new result
    → Answers event (at passed old) (answer_to result) (at passed new)
answers event passed old new (Ok reply) applied =
    subst (λ (r : PairReply). Answers event (at passed old) (answer_to (Ok r)) (at passed new)) (sym applied.reply)
    (subst (λ (p : PairState). Answers event (at passed old) (answer_to (Ok (reply_to event old))) (at passed p)) (sym applied.step)
    (happens_so applied.allowed))
answers event passed old new (Err why) applied =
    subst (λ (p : PairState). Answers event (at passed old) (answer_to (Err why)) (at passed p)) (sym applied.same) (choose applied.refused) where
      choose : (refusal event old.ends ≡ Some why) ⊎ ((why ≡ OutOfMemory) × (refusal event old.ends ≡ None)) → Answers event (at passed old) (answer_to (Err why)) (at passed old)
      choose (inl e) = refuses e
      choose (inr e) = subst (λ (w : Refused). Answers event (at passed old) (answer_to (Err w)) (at passed old)) (sym e.0) (lacks_memory e.1)
