-- A run goes on by one more event.
use Rattle.std.proofs.Common.{◌≡◌, refl, sym, ◌∙◌, ℕ, zero, suc, ◌+◌, ◌≤◌, ◌<◌, inl, inr, ap, subst, add-zero, arith, Bool, List, [], ◌∷◌, ◌++◌, length, Some, None, Result, Ok, Err}
use Rattle.std.specs.Prelude.{OnOk, OnErr, IfErr, IsTrue, is_ok, ◌⊎◌, if◌then◌else◌, slice_get}
use Rattle.std.specs.Option.{option_map}
use Rattle.ixl_state.specs.ixl_spec.State.{IxlState, RouteState}
use Rattle.ixl_state.specs.ixl_spec.View.{is_set}
use Rattle.ixl_state.specs.State.{AtRoute}
use Rattle.ixl_state.specs.ixl_table.Table.{SitedTable}
use Rattle.simulator_spec.specs.simulator_event.declared.event.Event.{Event}
use Rattle.simulator_spec.specs.simulator_event.declared.reply.Reply.{Reply}
use Rattle.simulator_spec.specs.simulator_event.refused.Refused.{Refused}
use Rattle.simulator_spec.specs.simulator_event.refused.Refused.TheVariants.{OutOfMemory}
use Rattle.simulator_spec.specs.Happens.{happens, is_restart}
use Rattle.simulator_spec.specs.Refusals.{refusal}
use Rattle.simulator.specs.Runs.{Goes, Runs, Stays, stops, refuses, lacks_memory, accepts}
use Rattle.simulator.specs.World.{View}

-- one event after a run: its own run comes after
run_then : (events : List Event) (event : Event) (first middle last : View) (count more : ℕ) → Runs events first count middle → Runs (event ∷ []) middle more last → Runs (events ++ event ∷ []) first (more + count) last
run_then _ event _ middle last _ more (stops) one = rw add-zero one
run_then _ event _ middle last _ more (refuses {later = later} {next = next} {count = count} why stays rest) one =
    refuses why stays (run_then later event next middle last count more rest one)
run_then _ event _ middle last _ more (lacks_memory {later = later} {next = next} {count = count} may lacking stays rest) one =
    lacks_memory may lacking stays (run_then later event next middle last count more rest one)
run_then _ event _ middle last _ more (accepts {event = done} {later = later} {world = world} {next = next} {count = count} may goes rest) one =
    let Counted : ℕ → Type 0 = λ n. Runs (done ∷ later ++ event ∷ []) world n last
    in let sum : more + count + 1 ≡ more + (count + 1) = omega arith
    in subst Counted sum (accepts may goes (run_then later event next middle last count more rest one))

-- one more event is applied, whatever the answer
pub run_step : (events : List Event) (event : Event) (first last new : View) (count : ℕ) (answer : Result Reply Refused) → Runs events first count last → OnOk answer (new.run ≡ happens last.sited.site last.sited.table event last.run)
    → OnOk answer (refusal last.sited.site event last.run ≡ None) → IfErr answer (λ why. (refusal last.sited.site event last.run ≡ Some why) ⊎ ((why ≡ OutOfMemory) × (refusal last.sited.site event last.run ≡ None)))
    → OnErr answer (new.run ≡ last.run) → new.sited ≡ last.sited → (answer ≡ Err OutOfMemory → 0 < last.room → IsTrue (is_restart event)) → last.room ≤ new.room + 1 → OnErr answer (last.room ≤ new.room)
    → Runs (events ++ event ∷ []) first (if is_ok answer then count + 1 else count) new
run_step events event first last new count (Ok reply) before step allowed refused same sited memory room kept =
    let Counted : ℕ → Type 0 = λ n. Runs (events ++ event ∷ []) first n new
    in let sum : 0 + 1 + count ≡ count + 1 = omega arith
    in let goes : Goes event last new = record { sited = sited; run = step; room = room }
    in subst Counted sum (run_then events event first last new count (0 + 1) before (accepts allowed goes stops))
run_step events event first last new count (Err why) before step allowed refused same sited memory room kept =
    let Counted : ℕ → Type 0 = λ n. Runs (events ++ event ∷ []) first n new
    in let sum : 0 + count ≡ count = omega arith
    in let stays : Stays last new = record { sited = sited; run = same; room = kept }
    in subst Counted sum (run_then events event first last new count 0 before (elim refused [
      | inl because ↦ refuses because stays stops
      | inr lacking ↦ lacks_memory lacking.1 (memory (ap Err lacking.0)) stays stops
    ]))

-- ---- a route that is kept

there : {A : Type 0} (xs : List A) (n : ℕ) → n < length xs → (x : A) × (slice_get xs n ≡ Some x)
there [] n below = absurd (omega (arith, below))
there (x ∷ xs) zero below = (x, refl)
there (x ∷ xs) (suc n) below = there xs n (omega (arith, below))

-- whether it is set, read off the routes
pub set_read : (sited : SitedTable) (ixl : IxlState) (number : ℕ) (result : Bool) → number < length sited.table.rows → length ixl.routes ≡ length sited.table.rows
    → AtRoute (record { sited = sited; ixl = ixl }) number (λ row kept. result ≡ is_set kept.phase) → option_map (λ (kept : RouteState). is_set kept.phase) (slice_get ixl.routes number) ≡ Some result
set_read sited ixl number result below each at =
    let row = there sited.table.rows number below
    in let kept = there ixl.routes number (omega (arith, below, each))
    in ap (option_map (λ (k : RouteState). is_set k.phase)) kept.1 ∙ ap Some (sym (at row.0 kept.0 (row.1, kept.1)))
