-- Memory: no test refuses for lack of it, and of what was sent nothing is taken back.
use Rattle.std.proofs.Common.{◌≡◌, refl, sym, ap, ◌∙◌, ℕ, ◌≤◌, ◌&&◌, ◌==◌, ◌+◌, ◌*◌, not, Bool, true, false, List, [], ◌∷◌, ◌++◌, length, arith, Option, Some, None, Result, Err}
use Rattle.std.specs.Prelude.{if◌then◌else◌, is_none, nat_le, nat_lt, slice_get, slice_set}
use Rattle.std.specs.List.{list_all}
use Rattle.std.proofs.lemmas.List.{length-append}
use Rattle.ixl_state.specs.sci_telegram.declared.message.Occupancy.{Occupancy}
use Rattle.ixl_state.specs.layout.declared.entries.Point.{Point as PointEntry}
use Rattle.ixl_state.specs.layout.declared.entries.Signal.{Signal as SignalEntry}
use Rattle.ixl_state.specs.layout.Entries.{DetectorEntry, Site}
use Rattle.ixl_state.specs.rasta_pdu.SafetyCode.{intact}
use Rattle.ixl_state.specs.rasta_core.Bag.{has_copy, is_copy}
use Rattle.ixl_state.specs.rasta_core.Links.{OnLink, without_oldest_of_all}
use Rattle.simulator_spec.specs.object_host.Behaviour.{Behaviour}
use Rattle.simulator_spec.specs.object_host.declared.input.Input.{Input}
use Rattle.simulator_spec.specs.object_host.declared.input.Input.TheVariants as inputs
use Rattle.simulator_spec.specs.object_host.declared.sense.Sense.TheVariants as sense
use Rattle.simulator_spec.specs.signal_ctl.Signal.{signal_behaviour}
use Rattle.simulator_spec.specs.point_ctl.Controlled.{point_behaviour}
use Rattle.simulator_spec.specs.tds_ctl.Controlled.{detection_behaviour}
use Rattle.ixl_state.specs.ixl_spec.Step as ixl
use Rattle.ixl_state.specs.ixl_spec.Table.{Table}
use Rattle.simulator_spec.specs.simulator_event.declared.event.Event.{Event}
use Rattle.simulator_spec.specs.simulator_event.declared.event.Event.TheVariants as event
use Rattle.simulator_spec.specs.simulator_event.refused.Refused.{Refused}
use Rattle.simulator_spec.specs.simulator_event.refused.Refused.TheVariants as refused
use Rattle.simulator_field.specs.Field.{world_of}
use Rattle.simulator_spec.specs.First.{Beginning}
use Rattle.simulator_spec.specs.Happens.{Stepped, coming, delivered_to, detector_anew, detector_stepped, happens, interlocking_stepped, made_anew, passed, point_anew, point_stepped, sensed_by, signal_anew, signal_stepped, stepped_at, ticked_at}
use Rattle.simulator_spec.specs.Network.{connection_of, copy_of, datagrams_of}
use Rattle.simulator_spec.specs.Nodes.{Node, Interlocking, Signal, Point, Detector, detector_link, key_of, node_at, nodes, point_link}
use Rattle.simulator_spec.specs.Refusals.{all_within, clock_limit, driven_at, is_missing, keeps_time, may_reach, refusal, refusal_of_time, refused_where}
use Rattle.simulator_spec.specs.Controllers.{controller_after, sent_by_controller, step_of}
use Rattle.simulator_spec.specs.State.{ClockedControllerState, WorldState}
use Rattle.simulator_spec.specs.Interlocking.{Sending, interlocking_step, sending_all, sending_one}
use Rattle.simulator.specs.inside.Parts.{Goes, seen}
use Rattle.simulator.specs.declared.parts.Parts.{Parts}

-- ---- no test refuses for lack of memory

abbrev is_lack : Option Refused → Bool
is_lack (Some refused.OutOfMemory) = true
is_lack _ = false

where_none_lacks : (fails : Bool) (why : Refused) (otherwise : Option Refused) → is_lack (Some why) ≡ false → is_lack otherwise ≡ false → is_lack (refused_where fails why otherwise) ≡ false
where_none_lacks true why otherwise other behind = other
where_none_lacks false why otherwise other behind = behind

none_lacks : (site : Site) (e : Event) (world : WorldState) → is_lack (refusal site e world) ≡ false
unfolding refusal refusal_of_time
none_lacks site (event.Request command) world = refl
none_lacks site (event.Occupy section occupancy) world = where_none_lacks (nat_le (length site.sections) section.0) refused.NoSuchNode None refl refl
none_lacks site (event.Tick node) world = where_none_lacks (is_missing node.0 site) refused.NoSuchNode None refl refl
none_lacks site (event.Time elapsed clocks) world =
    let past = refused_where (not (nat_le (world.time + elapsed) clock_limit && all_within world clocks)) refused.ClockLimit None
    in let drifts = refused_where (not (list_all (keeps_time elapsed) clocks)) refused.Drift past
    in where_none_lacks (not (length clocks == nodes site)) refused.NoSuchNode drifts refl
    (where_none_lacks (not (list_all (keeps_time elapsed) clocks)) refused.Drift past refl
    (where_none_lacks (not (nat_le (world.time + elapsed) clock_limit && all_within world clocks)) refused.ClockLimit None refl refl))
none_lacks site (event.Deliver node bytes) world =
    let unsent = is_none (copy_of bytes world) && intact (key_of site) bytes
    in where_none_lacks (is_missing node.0 site) refused.NoSuchNode (refused_where unsent refused.NeverSent None) refl (where_none_lacks unsent refused.NeverSent None refl refl)
none_lacks site (event.Lose bytes) world = where_none_lacks (not (has_copy bytes (datagrams_of world.sent))) refused.NeverSent None refl refl
none_lacks site (event.Reach point position) world =
    let undriven = not (may_reach (driven_at point.0 world.points) position)
    in where_none_lacks (nat_le (length site.points) point.0) refused.NoSuchNode (refused_where undriven refused.NotDriven None) refl (where_none_lacks undriven refused.NotDriven None refl refl)
none_lacks site (event.Restart node clock first) world =
    let late = nat_lt clock_limit (clock * 1000)
    in where_none_lacks (is_missing node.0 site) refused.NoSuchNode (refused_where late refused.ClockLimit None) refl (where_none_lacks late refused.ClockLimit None refl refl)

false_is_not_true : false ≡ true → ⊥
false_is_not_true same = cc

-- what a test refuses for isn't lack of memory
pub not_for_memory : (site : Site) (e : Event) (world : WorldState) (why : Refused) → refusal site e world ≡ Some why → why ≡ refused.OutOfMemory → ⊥
not_for_memory site e world why refuses same =
    false_is_not_true (sym (none_lacks site e world) ∙ ap is_lack refuses ∙ ap (λ w. is_lack (Some w)) same)

pub told_for : {T : Type 0} (result : Result T Refused) (told why : Refused) → result ≡ Err told → told ≡ why → result ≡ Err refused.OutOfMemory → why ≡ refused.OutOfMemory
told_for result told why is_told is_why same = cc

-- ---- of what was sent nothing is taken back

least : (n : ℕ) → n ≤ n
least n = omega arith

then_more : (a b c : ℕ) → a ≤ b → b ≤ c → a ≤ c
then_more a b c less more = omega (arith, less, more)

more_sent : (sent added : List OnLink) → length sent ≤ length (sent ++ added)
more_sent sent added = omega (arith, length-append sent added)

step_sends : {Object : Type 0} (does : Behaviour Object) (input : Input) (connection time link place : ℕ) (found : Option (ClockedControllerState Object)) (all : Stepped Object)
    → length all.sent ≤ length (stepped_at does input connection time link place found all).sent
unfolding stepped_at
step_sends does input connection time link place None all = least (length all.sent)
step_sends does input connection time link place (Some server) all =
    let done = step_of does input server
    in more_sent all.sent (sent_by_controller done time link server (controller_after done connection (length all.sent) server))

signal_sends : (site : Site) (input : Input) (connection place : ℕ) (world : WorldState) → length world.sent ≤ length (signal_stepped site input connection place world).sent
unfolding signal_stepped
signal_sends site input connection place world =
    step_sends signal_behaviour input connection world.time place place (slice_get world.signals place) (record { servers = world.signals; sent = world.sent })

point_sends : (site : Site) (input : Input) (connection place : ℕ) (world : WorldState) → length world.sent ≤ length (point_stepped site input connection place world).sent
unfolding point_stepped
point_sends site input connection place world =
    step_sends point_behaviour input connection world.time (point_link site place) place (slice_get world.points place) (record { servers = world.points; sent = world.sent })

detector_sends : (site : Site) (input : Input) (connection place : ℕ) (world : WorldState) → length world.sent ≤ length (detector_stepped site input connection place world).sent
unfolding detector_stepped
detector_sends site input connection place world =
    step_sends detection_behaviour input connection world.time (detector_link site place) place (slice_get world.detectors place) (record { servers = world.detectors; sent = world.sent })

one_sent : (site : Site) (time : ℕ) (bytes : List ℕ) (sending : Sending) → length sending.sent ≤ length (sending_one site time bytes sending).sent
unfolding sending_one
one_sent site time bytes sending = more_sent sending.sent _

all_sent : (site : Site) (time : ℕ) (datagrams : List (List ℕ)) (sending : Sending) → length sending.sent ≤ length (sending_all site time datagrams sending).sent
unfolding sending_all
all_sent site time [] sending = least (length sending.sent)
all_sent site time (first ∷ others) sending =
    let next = sending_one site time first sending
    in then_more (length sending.sent) (length next.sent) (length (sending_all site time others next).sent) (one_sent site time first sending) (all_sent site time others next)

station_sends : (site : Site) (table : Table) (input : ixl.Input) (world : WorldState) → length world.sent ≤ length (interlocking_stepped site table input world).sent
unfolding interlocking_stepped
station_sends site table input world =
    all_sent site world.time (interlocking_step site table input world.interlocking).outbox.datagrams (record { connections = world.interlocking.connections; sent = world.sent })

tick_sends : (site : Site) (table : Table) (at : Option Node) (world : WorldState) → length world.sent ≤ length (ticked_at site table at world).sent
tick_sends site table None world = least (length world.sent)
tick_sends site table (Some Interlocking) world = station_sends site table ixl.Tick world
tick_sends site table (Some (Signal place)) world = signal_sends site inputs.Tick 0 place world
tick_sends site table (Some (Point place)) world = point_sends site inputs.Tick 0 place world
tick_sends site table (Some (Detector place)) world = detector_sends site inputs.Tick 0 place world

delivery_sends : (site : Site) (table : Table) (bytes : List ℕ) (connection : ℕ) (at : Option Node) (world : WorldState) → length world.sent ≤ length (delivered_to site table bytes connection at world).sent
delivery_sends site table bytes connection None world = least (length world.sent)
delivery_sends site table bytes connection (Some Interlocking) world = station_sends site table (ixl.Datagram bytes) world
delivery_sends site table bytes connection (Some (Signal place)) world = signal_sends site (coming bytes) connection place world
delivery_sends site table bytes connection (Some (Point place)) world = point_sends site (coming bytes) connection place world
delivery_sends site table bytes connection (Some (Detector place)) world = detector_sends site (coming bytes) connection place world

sensing_sends : (site : Site) (occupancy : Occupancy) (reporter : Option (ℕ × ℕ)) (world : WorldState) → length world.sent ≤ length (sensed_by site occupancy reporter world).sent
sensing_sends site occupancy None world = least (length world.sent)
sensing_sends site occupancy (Some reporter) world = detector_sends site (inputs.Sense (sense.Section reporter.1 occupancy)) 0 reporter.0 world

either_way : (test : Bool) (xs ys : List OnLink) (n : ℕ) → n ≤ length xs → n ≤ length ys → n ≤ length (if test then xs else ys)
either_way true xs ys n first second = first
either_way false xs ys n first second = second

as_many : (one other : OnLink) (xs ys : List OnLink) → length xs ≤ length ys → length (one ∷ xs) ≤ length (other ∷ ys)
as_many one other xs ys less = omega (arith, less)

-- a loss marks one, and all stay
loss_keeps : (bytes : List ℕ) (sent : List OnLink) → length sent ≤ length (without_oldest_of_all bytes sent)
loss_keeps bytes [] = least 0
loss_keeps bytes (first ∷ later) =
    let lost : OnLink = record { link = first.link; datagram = record first.datagram { is_lost = true } }
    in either_way (is_copy bytes first.datagram) (lost ∷ later) (first ∷ without_oldest_of_all bytes later) (length (first ∷ later))
    (as_many first lost later later (least (length later)))
    (as_many first first later (without_oldest_of_all bytes later) (loss_keeps bytes later))

signal_anew_keeps : (site : Site) (begins : Beginning) (place : ℕ) (entry : Option SignalEntry) (world : WorldState) → length world.sent ≤ length (signal_anew site begins place entry world).sent
signal_anew_keeps site begins place None world = least (length world.sent)
signal_anew_keeps site begins place (Some entry) world = least (length world.sent)

point_anew_keeps : (site : Site) (begins : Beginning) (place : ℕ) (entry : Option PointEntry) (world : WorldState) → length world.sent ≤ length (point_anew site begins place entry world).sent
point_anew_keeps site begins place None world = least (length world.sent)
point_anew_keeps site begins place (Some entry) world = least (length world.sent)

detector_anew_keeps : (site : Site) (begins : Beginning) (place : ℕ) (entry : Option DetectorEntry) (world : WorldState) → length world.sent ≤ length (detector_anew site begins place entry world).sent
detector_anew_keeps site begins place None world = least (length world.sent)
detector_anew_keeps site begins place (Some entry) world = least (length world.sent)

anew_keeps : (site : Site) (table : Table) (begins : Beginning) (at : Option Node) (world : WorldState) → length world.sent ≤ length (made_anew site table begins at world).sent
anew_keeps site table begins None world = least (length world.sent)
anew_keeps site table begins (Some Interlocking) world = least (length world.sent)
anew_keeps site table begins (Some (Signal place)) world = signal_anew_keeps site begins place (slice_get site.signals place) world
anew_keeps site table begins (Some (Point place)) world = point_anew_keeps site begins place (slice_get site.points place) world
anew_keeps site table begins (Some (Detector place)) world = detector_anew_keeps site begins place (slice_get site.detectors place) world

happening_sends : (site : Site) (table : Table) (e : Event) (world : WorldState) → length world.sent ≤ length (happens site table e world).sent
unfolding happens passed
happening_sends site table (event.Request command) world = station_sends site table (ixl.Commands command) world
happening_sends site table (event.Occupy section occupancy) world =
    sensing_sends site occupancy (slice_get table.reporters section.0) (record world { occupancies = slice_set world.occupancies section.0 occupancy })
happening_sends site table (event.Tick node) world = tick_sends site table (node_at site node.0) world
happening_sends site table (event.Time elapsed clocks) world = least (length world.sent)
happening_sends site table (event.Deliver node bytes) world =
    delivery_sends site table bytes (connection_of (copy_of bytes world)) (node_at site node.0) world
happening_sends site table (event.Lose bytes) world = loss_keeps bytes world.sent
happening_sends site table (event.Reach point position) world =
    point_sends site (inputs.Sense (sense.Position position)) 0 point.0 (record world { positions = slice_set world.positions point.0 position })
happening_sends site table (event.Restart node clock first) world =
    anew_keeps site table (record { clock = clock; first = first }) (node_at site node.0) world

-- where an event happened, as many datagrams are there as before
pub goes_on : (site : Site) (table : Table) (e : Event) (old new : Parts) (before after : ℕ) → Goes (happens site table e) old new
    → before ≡ length old.field.network.sent → after ≡ length new.field.network.sent → before ≤ after
unfolding world_of
goes_on site table e old new before after goes is_before is_after =
    let sent : length new.field.network.sent ≡ length (happens site table e (seen old)).sent = ap (λ (w : WorldState). length w.sent) goes.world
    in let more : length old.field.network.sent ≤ length (happens site table e (seen old)).sent = happening_sends site table e (seen old)
    in omega (arith, is_before, is_after, sent, more)
