-- A run goes on by one more event.
use Rattle.std.proofs.Common.{◌≡◌, ℕ, ◌+◌, ◌≤◌, ◌<◌, inl, inr, ap, subst, add-zero, arith, List, [], ◌∷◌, ◌++◌, Some, None, Result, Ok, Err}
use Rattle.std.specs.Prelude.{OnOk, OnErr, IfErr, IsTrue, is_ok, ◌⊎◌, if◌then◌else◌}
use Rattle.simulator_pair.specs.Pair.{PairView}
use Rattle.simulator_pair.specs.Events.{refusal, happens, is_restart}
use Rattle.simulator_pair.specs.Runs.{Runs, stops, refuses, lacks_memory, accepts}
use Rattle.simulator_pair.specs.Theorem.{HappensRightly}
use Rattle.simulator_pair.specs.declared.event.PairEvent.{PairEvent}
use Rattle.simulator_pair.specs.declared.event.PairReply.{PairReply}
use Rattle.simulator_refused.specs.declared.refused.Refused.{Refused}
use Rattle.simulator_refused.specs.declared.refused.Refused.TheVariants.{OutOfMemory}

-- one event after a run: its own run comes after
run_then : (events : List PairEvent) (event : PairEvent) (first middle last : PairView) (count more : ℕ) → Runs events first count middle → Runs (event ∷ []) middle more last → Runs (events ++ event ∷ []) first (more + count) last
run_then _ event _ middle last _ more (stops) one = rw add-zero one
run_then _ event _ middle last _ more (refuses {later = later} {next = next} {count = count} why same room rest) one =
    refuses why same room (run_then later event next middle last count more rest one)
run_then _ event _ middle last _ more (lacks_memory {later = later} {next = next} {count = count} may lacking same room rest) one =
    lacks_memory may lacking same room (run_then later event next middle last count more rest one)
run_then _ event _ middle last _ more (accepts {event = done} {later = later} {pair = pair} {next = next} {count = count} may right step room rest) one =
    let Counted : ℕ → Type 0 = λ n. Runs (done ∷ later ++ event ∷ []) pair n last
    in let sum : more + count + 1 ≡ more + (count + 1) = omega arith
    in subst Counted sum (accepts may right step room (run_then later event next middle last count more rest one))

-- one more event is applied, whatever the answer
pub run_step : (events : List PairEvent) (event : PairEvent) (first last new : PairView) (count : ℕ) (answer : Result PairReply Refused) → Runs events first count last → OnOk answer (new.run ≡ happens event last.run) → OnOk answer (refusal event last.run.ends ≡ None) → IfErr answer (λ why. (refusal event last.run.ends ≡ Some why) ⊎ ((why ≡ OutOfMemory) × (refusal event last.run.ends ≡ None))) → OnErr answer (new.run ≡ last.run) → (answer ≡ Err OutOfMemory → 0 < last.room → IsTrue (is_restart event)) → last.room ≤ new.room + 1 → OnErr answer (last.room ≤ new.room) → HappensRightly event last.run.ends → Runs (events ++ event ∷ []) first (if is_ok answer then count + 1 else count) new
run_step events event first last new count (Ok reply) before step allowed refused same memory room kept right =
    let Counted : ℕ → Type 0 = λ n. Runs (events ++ event ∷ []) first n new
    in let sum : 0 + 1 + count ≡ count + 1 = omega arith
    in subst Counted sum (run_then events event first last new count (0 + 1) before (accepts allowed right step room stops))
run_step events event first last new count (Err why) before step allowed refused same memory room kept right =
    let Counted : ℕ → Type 0 = λ n. Runs (events ++ event ∷ []) first n new
    in let sum : 0 + count ≡ count = omega arith
    in subst Counted sum (run_then events event first last new count 0 before (elim refused [
      | inl because ↦ refuses because same kept stops
      | inr lacking ↦ lacks_memory lacking.1 (memory (ap Err lacking.0)) same kept stops
    ]))
