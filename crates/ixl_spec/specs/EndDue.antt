-- What else the rules come to, in the words of the field.
use Rattle.std.specs.Prelude.{◌≡◌, ℕ}
use Rattle.ixl_spec.specs.Table.{Row, Table}
use Rattle.ixl_spec.specs.State.{IxlState, RouteState}
use Rattle.ixl_spec.specs.Due.{Freeable, KnownStop}
use Rattle.ixl_spec.specs.declared.phase.Phase.TheVariants as phase

-- Authority is to end: the route was withdrawn, and its signal is at known stop.
pub record EndDue (now : ℕ) (ixl : IxlState) (row : Row) (route : RouteState) : Type 0 where
  pub withdrawn : route.phase ≡ phase.Withdrawn
  pub at_stop : KnownStop now ixl row.entry

-- Some section of a route may be freed by passage.
abbrev pub SomeFreeable : Table → IxlState → Row → RouteState → Type 0
SomeFreeable table ixl row route = (place : ℕ) × Freeable table ixl row route place
