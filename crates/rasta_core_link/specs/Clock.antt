-- The rules by the clock: when a connection has closed by time, and when an end is quiet.
use Rattle.std.specs.Prelude.{ℕ, ◌+◌, nat_le, nat_lt, ◌&&◌, Bool, if◌then◌else◌}
use Rattle.rasta_core_link.specs.Parameters.{time_limit, quiet_time, stops_at_greatest}
use Rattle.rasta_core_link.specs.State.{LinkState, is_open, is_up}
use Rattle.rasta_core_link.specs.declared.phase.Phase.{Phase}
use Rattle.rasta_core_link.specs.declared.phase.Phase.TheVariants as phase
use Rattle.rasta_core_link.specs.declared.phase.State.{State}
use Rattle.rasta_core_link.specs.declared.phase.State.TheVariants as state

-- the moment at which an open link closes by time, and at which a closed one closed
unfoldable pub deadline : LinkState → ℕ
deadline link = if is_open link.phase then link.own_stamp + time_limit else link.closed_at

-- what is told of it: no later moment than the greatest can be read
unfoldable pub alive_until : LinkState → ℕ
alive_until link = stops_at_greatest (deadline link)

-- the moment from which an end that closed may open again
unfoldable pub quiet_until : LinkState → ℕ
quiet_until link = stops_at_greatest (alive_until link + quiet_time)

-- the clock rules: a link whose time has come has closed at that moment, however late the reading
unfoldable pub settled : ℕ → LinkState → LinkState
settled now link =
    if is_open link.phase && nat_le (deadline link) now
    then record link { phase = phase.Closed; closed_at = deadline link; clock = now }
    else record link { clock = now }

abbrev pub open_state : Phase → State
open_state phase.Closed = state.Down
open_state phase.Start = state.Start
open_state phase.Up = state.Up
open_state phase.RetransmissionRequested = state.RetransmissionRequested
open_state phase.RetransmissionRunning = state.RetransmissionRunning

-- the state at a reading of the clock: an end outside is quiet for 6000 ms
unfoldable pub state_at : ℕ → LinkState → State
state_at now link =
    if is_open link.phase && nat_lt now (deadline link) then open_state link.phase
    else if nat_lt now (deadline link + quiet_time) then state.Quiet
    else state.Down

-- whether the link is up at a reading of its clock
unfoldable pub is_up_at : ℕ → LinkState → Bool
is_up_at now link = is_up link.phase && nat_lt now (deadline link)
