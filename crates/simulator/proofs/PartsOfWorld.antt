-- What happens to the parts of a world is what happens to the world.
use Rattle.std.proofs.Common.{◌≡◌, refl, sym, ap, ◌∙◌, subst, ℕ, List, arith, Option, Some, None}
use Rattle.ixl_state.specs.layout.Entries.{Site}
use Rattle.ixl_state.specs.ixl_spec.Step as ixl
use Rattle.ixl_state.specs.ixl_spec.Table.{Table}
use Rattle.ixl_state.specs.ixl_table.Table.{SitedTable}
use Rattle.simulator_spec.specs.object_host.Behaviour.{Behaviour}
use Rattle.simulator_spec.specs.object_host.Step.{beating, given, host_step}
use Rattle.simulator_spec.specs.object_host.declared.input.Input.{Input}
use Rattle.simulator_spec.specs.object_host.declared.input.Input.TheVariants as inputs
use Rattle.ixl_state.specs.rasta_core.Links.{OnLink}
use Rattle.simulator_spec.specs.signal_ctl.Signal.{signal_behaviour}
use Rattle.simulator_spec.specs.point_ctl.Controlled.{point_behaviour}
use Rattle.simulator_spec.specs.tds_ctl.Controlled.{detection_behaviour}
use Rattle.simulator_field.specs.Network.{NetworkState}
use Rattle.simulator_field.specs.Field.{AreOf, world_of}
use Rattle.simulator_spec.specs.Happens.{Stepped, coming, delivered_to, detector_stepped, interlocking_stepped, point_stepped, signal_stepped, stepped_at}
use Rattle.simulator_spec.specs.Nodes.{Detector, Node, Point, Signal, detector_link, point_link}
use Rattle.simulator_spec.specs.signal_ctl.Signal.{SignalState}
use Rattle.simulator_spec.specs.point_ctl.Drive.{PointState}
use Rattle.simulator_spec.specs.tds_ctl.declared.section.Section.{Section}
use Rattle.std.specs.Prelude.{slice_get}
use Rattle.simulator_spec.specs.State.{ClockedControllerState, ClockedInterlockingState, WorldState}
use Rattle.simulator.specs.Interlocking.{ClockedInterlockingView, HasSteppedAndSent, done_by, sending_after}
use Rattle.simulator.specs.inside.Parts.{Goes, IsWhole, site_of, room_of, seen, table_of}
use Rattle.simulator.specs.declared.parts.Parts.{Parts}

-- what was done in other words
pub goes_as : (does other : WorldState → WorldState) (old new : Parts) → Goes does old new → does (seen old) ≡ other (seen old) → Goes other old new
goes_as does other old new goes same = record { world = goes.world ∙ same; sited = goes.sited; whole = goes.whole; room = goes.room }

-- one thing happens before another, which takes no memory
pub goes_behind : (first does : WorldState → WorldState) (old middle new : Parts) → seen middle ≡ first (seen old) → middle.interlocking.sited ≡ old.interlocking.sited → room_of middle ≡ room_of old → Goes does middle new
    → Goes (λ world. does (first world)) old new
goes_behind first does old middle new before sited room goes = record {
  world = goes.world ∙ ap does before;
  sited = goes.sited ∙ sited;
  whole = goes.whole;
  room = omega (arith, room, goes.room);
}

-- ---- the interlocking

stepped_world : (input : ixl.Input) (old new : ClockedInterlockingView) (before after : NetworkState) (answer : ixl.Reply) (world : WorldState) → old.interlocking ≡ world.interlocking → before.time ≡ world.time → before.sent ≡ world.sent
    → HasSteppedAndSent input old before new after answer
    → record world { time = after.time; interlocking = new.interlocking; sent = after.sent } ≡ interlocking_stepped old.sited.site old.sited.table input world
unfolding interlocking_stepped
stepped_world input old new before after answer world is_station is_time is_sent stepped =
    let Made : ℕ → ClockedInterlockingState → List OnLink → WorldState = λ t s n. record world { time = t; interlocking = s; sent = n }
    in let Done : ClockedInterlockingState → ℕ → List OnLink → WorldState = λ s t n.
    let view : ClockedInterlockingView = record { sited = old.sited; interlocking = s }
    in let network : NetworkState = record { time = t; sent = n; room = before.room }
    in record world { interlocking = record s { ixl = (done_by input view).ixl; connections = (sending_after input view network).connections }; sent = (sending_after input view network).sent }
    in ap (λ t. Made t new.interlocking after.sent) (stepped.time ∙ is_time)
    ∙ ap (λ s. Made world.time s after.sent) stepped.interlocking
    ∙ ap (Made world.time (record old.interlocking { ixl = (done_by input old).ixl; connections = (sending_after input old before).connections })) stepped.sent
    ∙ ap (λ s. Done s before.time before.sent) is_station
    ∙ ap (λ t. Done world.interlocking t before.sent) is_time
    ∙ ap (λ n. Done world.interlocking world.time n) is_sent

same_whole : (sited other : SitedTable) (parts : Parts) (network : NetworkState) → other ≡ sited → AreOf sited.site parts.field → AreOf other.site (record parts.field { network = network })
same_whole sited other parts network same whole =
    let Of : SitedTable → Type 0 = λ p. AreOf p.site (record parts.field { network = network })
    in subst Of (sym same) (record { signals = whole.signals; points = whole.points; detectors = whole.detectors; positions = whole.positions; occupancies = whole.occupancies })

pub station_goes : (input : ixl.Input) (old : Parts) (station : ClockedInterlockingView) (network : NetworkState) (answer : ixl.Reply) → IsWhole old → HasSteppedAndSent input old.interlocking old.field.network station network answer
    → Goes (interlocking_stepped (site_of old) (table_of old) input) old (record old { interlocking = station; field = record old.field { network = network } })
unfolding world_of
station_goes input old station network answer whole stepped = record {
  world = stepped_world input old.interlocking station old.field.network network answer (world_of old.interlocking.interlocking old.frozen.items old.field) refl refl refl stepped;
  sited = stepped.sited;
  whole = same_whole old.interlocking.sited station.sited old network stepped.sited whole;
  room = stepped.room;
}

-- ---- what comes to a controller

same_coming : {Object : Type 0} (does : Behaviour Object) (bytes : List ℕ) (pointer : ℕ × ℕ) (connection time link place : ℕ) (found : Option (ClockedControllerState Object)) (all : Stepped Object)
    → stepped_at does (inputs.Datagram (record { ref_ptr = pointer; now = bytes })) connection time link place found all ≡ stepped_at does (coming bytes) connection time link place found all
unfolding stepped_at host_step given beating
same_coming does bytes pointer connection time link place None all = refl
same_coming does bytes pointer connection time link place (Some server) all = refl

-- bytes that come to a controller
pub signal_coming : (site : Site) (table : Table) (bytes : List ℕ) (pointer : ℕ × ℕ) (connection place : ℕ) (target : Option Node) (world : WorldState) → Some (Signal place) ≡ target
    → signal_stepped site (inputs.Datagram (record { ref_ptr = pointer; now = bytes })) connection place world ≡ delivered_to site table bytes connection target world
unfolding signal_stepped
signal_coming site table bytes pointer connection place target world is =
    ap (λ (all : Stepped SignalState). record world { signals = all.servers; sent = all.sent }) (same_coming signal_behaviour bytes pointer connection world.time place place (slice_get world.signals place) (record { servers = world.signals; sent = world.sent }))
    ∙ ap (λ n. delivered_to site table bytes connection n world) is

pub point_coming : (site : Site) (table : Table) (bytes : List ℕ) (pointer : ℕ × ℕ) (connection place : ℕ) (target : Option Node) (world : WorldState) → Some (Point place) ≡ target
    → point_stepped site (inputs.Datagram (record { ref_ptr = pointer; now = bytes })) connection place world ≡ delivered_to site table bytes connection target world
unfolding point_stepped
point_coming site table bytes pointer connection place target world is =
    ap (λ (all : Stepped PointState). record world { points = all.servers; sent = all.sent }) (same_coming point_behaviour bytes pointer connection world.time (point_link site place) place (slice_get world.points place) (record { servers = world.points; sent = world.sent }))
    ∙ ap (λ n. delivered_to site table bytes connection n world) is

pub detector_coming : (site : Site) (table : Table) (bytes : List ℕ) (pointer : ℕ × ℕ) (connection place : ℕ) (target : Option Node) (world : WorldState) → Some (Detector place) ≡ target
    → detector_stepped site (inputs.Datagram (record { ref_ptr = pointer; now = bytes })) connection place world ≡ delivered_to site table bytes connection target world
unfolding detector_stepped
detector_coming site table bytes pointer connection place target world is =
    ap (λ (all : Stepped (List Section)). record world { detectors = all.servers; sent = all.sent }) (same_coming detection_behaviour bytes pointer connection world.time (detector_link site place) place (slice_get world.detectors place) (record { servers = world.detectors; sent = world.sent }))
    ∙ ap (λ n. delivered_to site table bytes connection n world) is
