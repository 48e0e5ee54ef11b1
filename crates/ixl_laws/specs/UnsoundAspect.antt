-- What an aspect rests on after the input of a step.
use Rattle.std.specs.Prelude.{◌⊎◌}
use Rattle.ixl_state.specs.ixl_spec.Due.{AllClear, AllKnown, IsSignalReady}
use Rattle.ixl_state.specs.ixl_spec.State.{IxlState}
use Rattle.ixl_state.specs.ixl_spec.Table.{Row, Table}

-- A point that the route requires isn't known at its side, a section isn't clear, or the signal's link isn't ready.
abbrev pub IsUnsound : Table → IxlState → Row → Type 0
IsUnsound table ixl row = ((AllKnown ixl row.needs → ⊥) ⊎ (AllClear table ixl row.sections → ⊥)) ⊎ (IsSignalReady ixl row.entry → ⊥)
