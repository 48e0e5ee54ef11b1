-- One thing after another.
use Rattle.std.proofs.Common.{◌≡◌, ◌≤◌, ℕ, Bool, if◌then◌else◌, List, [], ◌∷◌, length, refl, ap, ◌∙◌}
use Rattle.std.specs.Prelude.{slice_get}
use Rattle.ixl_spec.specs.View.{is_holding}
use Rattle.ixl_spec.specs.rasta_core.Outbox.{OutboxState}
use Rattle.ixl_spec.specs.rasta_pdu.declared.key.Key.{Key}
use Rattle.ixl_spec.specs.StepSoFar.{begun_with}
use Rattle.ixl_spec.specs.State.{IxlState}
use Rattle.ixl_spec.specs.Step.{Input, stepped}
use Rattle.ixl_spec.specs.Table.{Table as Rows}
use Rattle.simulator_machine.specs.Chains.{MovesTo}
use Rattle.simulator_machine.specs.Machine.{Machine, made_anew}
use Rattle.simulator_move_laws.specs.Course.{ComesTo, Happening, IsAnswered, IsReplaced, MayAllHappen, MayHappen, Moment, Passes, SeesAt, Steps, moment_after, moments_after}
use Rattle.simulator_move_laws.specs.Facts.{FarEnds}
use Rattle.simulator_move_laws.specs.Onward.{AreAloneAfterQuiet, IsPassed, IsStepped, has_authority_there, held_routes}
use Rattle.simulator_move_laws.specs.Rows.{machine_table}
use Rattle.simulator_move_laws.specs.Sees.{Given, Sees}
use Rattle.simulator_move_laws.proofs.Interlocking.Anew.{is_made_anew}
use Rattle.simulator_move_laws.proofs.Interlocking.Nodes.{stays_so}
use Rattle.simulator_move_laws.proofs.Interlocking.StepsSeen.{alike_sees}

held_same : (now : ℕ) (ixl : IxlState) (one other : ℕ → Bool) → ((number : ℕ) → one number ≡ other number) → (number : ℕ) → held_routes now ixl one number ≡ held_routes now ixl other number
held_same now ixl one other same number = ap (λ frozen. if is_holding now ixl then frozen else has_authority_there (slice_get ixl.routes number)) (same number)

module _ (rows : Rows)
    (onward : (old between new : Machine) → MovesTo (machine_table rows) old between → MovesTo (machine_table rows) between new → MovesTo (machine_table rows) old new)
    (steps : (now : ℕ) (input : Input) (key : Key) (outbox : OutboxState) (ixl : IxlState) (given : Given) (machine : Machine) → Sees now ixl given machine → FarEnds now input ixl given machine →
    length ixl.routes ≡ length rows.rows → (new : Machine) × IsStepped now input (machine_table rows) ixl given machine (stepped now rows key input (begun_with ixl outbox)) new)
    (passes : (now later : ℕ) (ixl : IxlState) (given : Given) (machine : Machine) → now ≤ later → Sees now ixl given machine → AreAloneAfterQuiet later ixl machine →
    (new : Machine) × IsPassed later (machine_table rows) ixl given machine new) where
  record Came (what : Happening) (moment : Moment) (old new : Machine) : Type 0 where
    comes : ComesTo rows what moment old new
    moves : MovesTo (machine_table rows) old new
    sees : SeesAt rows (moment_after rows what moment) new

  one : (what : Happening) (moment : Moment) (machine : Machine) → SeesAt rows moment machine → MayHappen rows what moment machine → (new : Machine) × Came what moment machine new
  unfolding moment_after
  one (Steps key input outbox) moment machine at far =
      let led = steps moment.clock input key outbox moment.ixl moment.given machine at.sees far at.routes
      in (led.0, record { comes = led.1; moves = led.1.behind.moves; sees = record { sees = led.1.sees; frozen = λ number. ap (λ frozen. frozen number) led.1.behind.frozen ∙ at.frozen number; routes = led.1.behind.count ∙ at.routes } })
  one (Passes later) moment machine at may =
      let led = passes moment.clock later moment.ixl moment.given machine may.0 at.sees may.1
      in (led.0, record { comes = led.1; moves = led.1.keeps.moves; sees = record { sees = led.1.sees; frozen = λ number. ap (λ frozen. frozen number) led.1.frozen ∙ at.frozen number; routes = at.routes } })
  one (IsReplaced later ixl given) moment machine at may =
      let led = is_made_anew moment.clock later (machine_table rows) moment.ixl ixl moment.given given machine at.sees may.made may.created may.clock may.signals
      in (made_anew machine, record { comes = led; moves = led.keeps.moves; sees = record { sees = led.sees; frozen = λ number. led.frozen number ∙ held_same moment.clock moment.ixl machine.frozen moment.frozen at.frozen number; routes = may.routes } })
  one (IsAnswered new) moment machine at may =
      (new, record { comes = refl; moves = may.0; sees = record { sees = alike_sees moment.clock moment.ixl moment.given machine new at.sees may.1; frozen = λ number. ap (λ frozen. frozen number) may.1.frozen ∙ at.frozen number; routes = at.routes } })

  pub all : (events : List Happening) (moment : Moment) (machine : Machine) → SeesAt rows moment machine → MayAllHappen rows events moment machine →
      (new : Machine) × MovesTo (machine_table rows) machine new × SeesAt rows (moments_after rows events moment) new
  unfolding moments_after MayAllHappen
  all [] moment machine at may = (machine, stays_so (machine_table rows) machine, at)
  all (first ∷ others) moment machine at may =
      let came = one first moment machine at may.0
      in let rest = all others (moment_after rows first moment) came.0 came.1.sees (may.1 came.0 came.1.comes)
      in (rest.0, onward machine came.0 rest.0 came.1.moves rest.1, rest.2)
