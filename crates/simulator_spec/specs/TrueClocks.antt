-- A list of events whose clocks are those of real machines: true to one part in a thousand between any two moments, give or
-- take ten microseconds, however short the events are.
use Rattle.std.specs.Prelude.{◌≡◌, ℕ, zero, suc, ◌+◌, ◌<◌, ◌==◌, nat_le, ◌&&◌, not, Bool, true, false, List, [], ◌∷◌, length, Option, Some, None, slice_get}
use Rattle.ixl_spec.specs.layout.Entries.{Site}
use Rattle.ixl_spec.specs.Table.{Table}
use Rattle.ixl_spec.specs.rasta_core.TrueClocks.{IsSteady, Moment, unless}
use Rattle.simulator_event.specs.declared.event.Event.{Event}
use Rattle.simulator_event.specs.declared.event.Event.TheVariants as event
use Rattle.simulator_event.specs.refused.Refused.{Refused}
use Rattle.simulator_event.specs.refused.Refused.TheVariants as refused
use Rattle.simulator_spec.specs.Happens.{happens}
use Rattle.simulator_spec.specs.Links.{ServerEnd, server_ends}
use Rattle.simulator_spec.specs.Nodes.{nodes}
use Rattle.simulator_spec.specs.Refusals.{all_within, clock_limit, refusal, refused_where}
use Rattle.simulator_spec.specs.State.{WorldState}

-- ---- what may come

-- why time can't pass: the tests of `refusal_of_time`, but for that of drift
unfoldable pub refusal_but_drift : Site → ℕ → List ℕ → WorldState → Option Refused
refusal_but_drift site elapsed steps world =
    refused_where (not (length steps == nodes site)) refused.NoSuchNode
    (refused_where (not (nat_le (world.time + elapsed) clock_limit && all_within world steps)) refused.ClockLimit None)

-- nothing refuses an event, whatever clocks do in it
abbrev pub MayCome : Site → Event → WorldState → Type 0
MayCome site (event.Time elapsed clocks) world = refusal_but_drift site elapsed clocks world ≡ None
MayCome site (event.Request command) world = refusal site (event.Request command) world ≡ None
MayCome site (event.Occupy section occupancy) world = refusal site (event.Occupy section occupancy) world ≡ None
MayCome site (event.Tick node) world = refusal site (event.Tick node) world ≡ None
MayCome site (event.Deliver node bytes) world = refusal site (event.Deliver node bytes) world ≡ None
MayCome site (event.Lose bytes) world = refusal site (event.Lose bytes) world ≡ None
MayCome site (event.Reach point position) world = refusal site (event.Reach point position) world ≡ None
MayCome site (event.Restart node clock first) world = refusal site (event.Restart node clock first) world ≡ None

-- each of them may come where it does
abbrev pub MayAllCome : Site → Table → List Event → WorldState → Type 0
MayAllCome site table [] world = Unit {0}
MayAllCome site table (first ∷ others) world = MayCome site first world × MayAllCome site table others (happens site table first world)

-- ---- clocks

abbrev pub clock_in : Option ServerEnd → ℕ
clock_in None = 0
clock_in (Some end) = end.clock

-- the clock of a node: the interlocking is 0, then come the controllers in the order of their links
abbrev pub clock_of : ℕ → WorldState → ℕ
clock_of zero world = world.interlocking.clock
clock_of (suc link) world = clock_in (slice_get (server_ends world) link)

abbrev pub moment_of : ℕ → WorldState → Moment
moment_of node world = record { at = world.time; clock = clock_of node world }

-- the event makes this node anew, and so sets its clock
abbrev pub sets : ℕ → Event → Bool
sets node (event.Restart other clock first) = other.0 == node
sets node (event.Request command) = false
sets node (event.Occupy section occupancy) = false
sets node (event.Tick other) = false
sets node (event.Time elapsed clocks) = false
sets node (event.Deliver other bytes) = false
sets node (event.Lose bytes) = false
sets node (event.Reach point position) = false

-- From a moment on the clock of a node is steady, until the node is made anew.
abbrev pub StaysSteady : Site → Table → ℕ → Moment → List Event → WorldState → Type 0
StaysSteady site table node from [] world = IsSteady from (moment_of node world)
StaysSteady site table node from (first ∷ others) world =
    IsSteady from (moment_of node world) × unless (sets node first) (StaysSteady site table node from others (happens site table first world))

-- Every clock keeps time over a list of events: it is steady between any two moments between which its node wasn't made
-- anew.
abbrev pub KeepTime : Site → Table → List Event → WorldState → Type 0
KeepTime site table [] world = Unit {0}
KeepTime site table (first ∷ others) world =
    ((node : ℕ) → node < nodes site → StaysSteady site table node (moment_of node world) (first ∷ others) world)
    × KeepTime site table others (happens site table first world)
