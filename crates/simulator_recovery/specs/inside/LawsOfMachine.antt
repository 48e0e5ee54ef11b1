-- What the machine keeps.
use Rattle.std.specs.Prelude.{ℕ}
use Rattle.simulator_machine.specs.Invariant.{Invariant}
use Rattle.simulator_machine.specs.Machine.{Machine}
use Rattle.simulator_machine.specs.Moves.{May, Move, after}
use Rattle.simulator_machine.specs.Point.{Position}
use Rattle.simulator_machine.specs.Run.{first}
use Rattle.simulator_machine.specs.Table.{IsSound, Table as MachineTable, Table}

abbrev pub EachKeeps : Type 0
EachKeeps = (table : Table) (machine : Machine) (move : Move) → IsSound table → Invariant table machine → May table machine move → Invariant table (after table machine move)

pub record LawsOfMachine : Type 0 where
  pub invariant_is_kept_first : (table : MachineTable) (positions : ℕ → Position) → Invariant table (first positions)
  pub invariant_is_kept_each : EachKeeps
