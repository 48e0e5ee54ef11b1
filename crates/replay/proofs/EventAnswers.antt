-- What a world says to an event is an answer of it.
use Rattle.std.proofs.Common.{◌≡◌, ℕ, List, Option, Result, Ok, Err, sym, subst}
use Rattle.std.specs.Prelude.{OnErr}
use Rattle.simulator.specs.simulator_event.declared.event.Event.{Event}
use Rattle.simulator.specs.simulator_event.refused.Refused.{Refused}
use Rattle.simulator.specs.simulator_event.refused.Refused.TheVariants.{NoSuchNode, NeverSent, Drift, NotDriven, ClockLimit, OutOfMemory}
use Rattle.simulator.specs.simulator_event.declared.reply.Answer.{Answer}
use Rattle.simulator.specs.simulator_event.declared.reply.Reply.{Reply}
use Rattle.simulator.specs.simulator_event.Station.{Applies, recorded}
use Rattle.simulator.specs.simulator_spec.declared.round.FoundDriven.{FoundDriven}
use Rattle.simulator.specs.simulator_spec.Flow.{Flowing}
use Rattle.replay.specs.Transcript.{Answers, answers_so, lacks_memory}
use Rattle.replay.specs.World.{Played, after, answer, worlds}

-- a world, with what the flows so far left
abbrev pub at : ℕ → List (Option FoundDriven) → Played → Flowing
at passed drives world = record { state = world; passed = passed; drives = drives }

happened : (event : Event) (passed : ℕ) (drives : List (Option FoundDriven)) (old new : Played) (reply : Result Reply Refused)
    → (recorded reply ≡ answer old event) × (new ≡ after old event) → Answers event (at passed drives old) (recorded reply) (at passed drives new)
happened event passed drives old new reply h =
    subst (λ (said : Result Answer Refused). Answers event (at passed drives old) said (at passed drives new)) (sym h.0)
    (subst (λ (p : Played). Answers event (at passed drives old) (answer old event) (at passed drives p)) (sym h.1) answers_so)

pub answered : (event : Event) (passed : ℕ) (drives : List (Option FoundDriven)) (old new : Played) (reply : Result Reply Refused)
    → Applies worlds event old reply new → Answers event (at passed drives old) (recorded reply) (at passed drives new)
answered event passed drives old new (Err OutOfMemory) same = subst (λ (p : Played). Answers event (at passed drives old) (Err OutOfMemory) (at passed drives p)) (sym same) lacks_memory
answered event passed drives old new (Err NoSuchNode) h = happened event passed drives old new (Err NoSuchNode) h
answered event passed drives old new (Err NeverSent) h = happened event passed drives old new (Err NeverSent) h
answered event passed drives old new (Err Drift) h = happened event passed drives old new (Err Drift) h
answered event passed drives old new (Err NotDriven) h = happened event passed drives old new (Err NotDriven) h
answered event passed drives old new (Err ClockLimit) h = happened event passed drives old new (Err ClockLimit) h
answered event passed drives old new (Ok reply) h = happened event passed drives old new (Ok reply) h

-- what holds of a failure
pub on_err : {A E : Type 0} {P : Type 0} (result : Result A E) → P → OnErr result P
on_err (Ok a) p = tt
on_err (Err e) p = p
