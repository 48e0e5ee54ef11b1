-- Why an event can't happen: the first test that fails, in their order.
use Rattle.std.specs.Prelude.{ℕ, zero, suc, ◌+◌, ◌*◌, ◌==◌, nat_le, nat_lt, ◌&&◌, not, Bool, true, false, List, [], ◌∷◌, length, Option, Some, None, is_none, if◌then◌else◌}
use Rattle.std.specs.List.{list_all}
use Rattle.ixl_spec.specs.sci_telegram.declared.message.Position.{Position}
use Rattle.ixl_spec.specs.sci_telegram.declared.message.Position.TheVariants as positions
use Rattle.ixl_spec.specs.sci_telegram.declared.message.Side.{Side}
use Rattle.ixl_spec.specs.sci_telegram.declared.message.Side.TheVariants as sides
use Rattle.ixl_spec.specs.layout.Entries.{Site}
use Rattle.ixl_spec.specs.rasta_pdu.SafetyCode.{intact}
use Rattle.ixl_spec.specs.rasta_core.Bag.{has_copy}
use Rattle.ixl_spec.specs.rasta_core.time.TheConstants.{CLOCK_LIMIT}
use Rattle.ixl_spec.specs.rasta_core.Ends.{reading_of}
use Rattle.point_ctl.specs.Drive.{PointState, drives}
use Rattle.simulator_event.specs.declared.event.Event.{Event}
use Rattle.simulator_event.specs.declared.event.Event.TheVariants as event
use Rattle.simulator_event.specs.refused.Refused.{Refused}
use Rattle.simulator_event.specs.refused.Refused.TheVariants as refused
use Rattle.simulator_spec.specs.Network.{copy_of, datagrams_of}
use Rattle.simulator_spec.specs.Nodes.{key_of, nodes}
use Rattle.simulator_spec.specs.State.{ClockedControllerState, WorldState}

-- the greatest true time and the greatest clock, in microseconds
abbrev pub clock_limit : ℕ
clock_limit = CLOCK_LIMIT

-- a clock that goes on by so much in a true time keeps within one part in a thousand of it
abbrev pub keeps_time : ℕ → ℕ → Bool
keeps_time elapsed of_clock = nat_le (999 * elapsed) (1000 * of_clock) && nat_le (1000 * of_clock) (1001 * elapsed)

-- a test fails
abbrev pub refused_where : Bool → Refused → Option Refused → Option Refused
refused_where fails why otherwise = if fails then Some why else otherwise

-- ---- time

-- no clock of these servers passes the limit by its step, and what is left of the steps goes on
abbrev pub are_within : {Object : Type 0} → List (ClockedControllerState Object) → List ℕ → (List ℕ → Bool) → Bool
are_within [] steps others = others steps
are_within (server ∷ servers) [] others = others []
are_within (server ∷ servers) (step ∷ steps) others = nat_le (server.clock + step) clock_limit && are_within servers steps others

abbrev pub interlocking_within : ℕ → List ℕ → (List ℕ → Bool) → Bool
interlocking_within clock [] others = others []
interlocking_within clock (step ∷ steps) others = nat_le (clock + step) clock_limit && others steps

abbrev pub all_within : WorldState → List ℕ → Bool
all_within world steps =
    interlocking_within world.interlocking.clock steps (λ steps. are_within world.signals steps
    (λ steps. are_within world.points steps (λ steps. are_within world.detectors steps (λ steps. true))))

unfoldable pub refusal_of_time : Site → ℕ → List ℕ → WorldState → Option Refused
refusal_of_time site elapsed steps world =
    refused_where (not (length steps == nodes site)) refused.NoSuchNode
    (refused_where (not (list_all (keeps_time elapsed) steps)) refused.Drift
    (refused_where (not (nat_le (world.time + elapsed) clock_limit && all_within world steps)) refused.ClockLimit None))

-- ---- points

-- a point comes to lie at no end position, or at the side to which it is driven
abbrev pub may_reach : Option Side → Position → Bool
may_reach None position = false
may_reach (Some side) positions.NoEndPosition = true
may_reach (Some sides.Right) positions.Right = true
may_reach (Some sides.Left) positions.Left = true
may_reach (Some sides.Right) positions.Left = false
may_reach (Some sides.Left) positions.Right = false

-- the side to which a controller drives its point now
abbrev pub driven_by : ClockedControllerState PointState → Option Side
driven_by server = drives (reading_of server.clock) server.host.object

abbrev pub driven_at : ℕ → List (ClockedControllerState PointState) → Option Side
driven_at place [] = None
driven_at zero (server ∷ servers) = driven_by server
driven_at (suc place) (server ∷ servers) = driven_at place servers

-- ---- all events

abbrev pub is_missing : ℕ → Site → Bool
is_missing node site = nat_le (nodes site) node

unfoldable pub refusal : Site → Event → WorldState → Option Refused
refusal site (event.Request command) world = None
refusal site (event.Occupy section occupancy) world = refused_where (nat_le (length site.sections) section.0) refused.NoSuchNode None
refusal site (event.Tick node) world = refused_where (is_missing node.0 site) refused.NoSuchNode None
refusal site (event.Time elapsed clocks) world = refusal_of_time site elapsed clocks world
refusal site (event.Deliver node bytes) world =
    refused_where (is_missing node.0 site) refused.NoSuchNode
    (refused_where (is_none (copy_of bytes world) && intact (key_of site) bytes) refused.NeverSent None)
refusal site (event.Lose bytes) world = refused_where (not (has_copy bytes (datagrams_of world.sent))) refused.NeverSent None
refusal site (event.Reach point position) world =
    refused_where (nat_le (length site.points) point.0) refused.NoSuchNode
    (refused_where (not (may_reach (driven_at point.0 world.points) position)) refused.NotDriven None)
refusal site (event.Restart node clock first) world =
    refused_where (is_missing node.0 site) refused.NoSuchNode
    (refused_where (nat_lt clock_limit (clock * 1000)) refused.ClockLimit None)
