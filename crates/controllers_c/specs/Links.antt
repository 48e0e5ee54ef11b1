-- How a link stands, as C is told for a display.
use Rattle.std.specs.Prelude.{ℕ}
use Rattle.rasta_core.specs.phase.State.{State}
use Rattle.rasta_core.specs.phase.State.TheVariants as state

abbrev pub link_number : State → ℕ
link_number state.Down = 0
link_number state.Quiet = 0
link_number state.Start = 1
link_number state.Up = 2
link_number state.RetransmissionRequested = 2
link_number state.RetransmissionRunning = 2
