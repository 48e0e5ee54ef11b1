-- What a change of one controller is in the words of the definitions.
use Rattle.std.proofs.Common.{◌≡◌, refl, sym, ap, ◌∙◌, ℕ, zero, suc, ◌+◌, ◌<◌, List, [], ◌∷◌, ◌++◌, length, map, get_or, replicate, Some, Option, arith}
use Rattle.std.specs.Prelude.{slice_get, slice_index_or}
use Rattle.std.proofs.Math.ListN.{set}
use Rattle.std.proofs.lemmas.List.{get_or_read}
use Rattle.std.proofs.lemmas.Option.{slice_get_read}
use Rattle.simulator_spec.specs.sci_telegram.declared.message.Occupancy.{Occupancy}
use Rattle.simulator_spec.specs.sci_telegram.declared.message.Position.{Position}
use Rattle.simulator_spec.specs.sci_telegram.declared.message.Position.TheVariants as positions
use Rattle.simulator_spec.specs.layout.Entries.{DetectorEntry, Site}
use Rattle.simulator_spec.specs.layout.declared.entries.Point.{Point as PointEntry}
use Rattle.simulator_spec.specs.layout.declared.entries.Signal.{Signal as SignalEntry}
use Rattle.simulator_spec.specs.rasta_core.Links.{OnLink}
use Rattle.simulator_spec.specs.object_host.Behaviour.{Behaviour}
use Rattle.simulator_spec.specs.object_host.Host.{HostState}
use Rattle.simulator_spec.specs.object_host.declared.input.Input.{Input}
use Rattle.simulator_spec.specs.signal_ctl.Signal.{SignalState, signal_behaviour}
use Rattle.simulator_spec.specs.point_ctl.Controlled.{point_behaviour}
use Rattle.simulator_spec.specs.point_ctl.Drive.{PointState}
use Rattle.simulator_spec.specs.tds_ctl.Controlled.{detection_behaviour}
use Rattle.simulator_spec.specs.tds_ctl.declared.section.Section.{Section}
use Rattle.simulator_spec.specs.ixl_spec.State.{changed}
use Rattle.simulator_spec.specs.First.{Beginning, new_detector, new_point, new_signal}
use Rattle.simulator_spec.specs.Happens.{Stepped, detector_anew, detector_stepped, point_anew, point_stepped, signal_anew, signal_stepped, stepped_at}
use Rattle.simulator_spec.specs.Nodes.{detector_link, point_link}
use Rattle.simulator_spec.specs.Controllers.{controller_after, controller_anew, sent_by_controller, step_of}
use Rattle.simulator_spec.specs.State.{ClockedControllerState, WorldState}

-- ---- a step

pub stepped_there : {Object : Type 0} (does : Behaviour Object) (input : Input) (connection time link place : ℕ) (servers : List (ClockedControllerState Object)) (server new : ClockedControllerState Object) (sent new_sent : List OnLink)
    → place < length servers → server ≡ get_or servers place server → new ≡ controller_after (step_of does input server) connection (length sent) server
    → new_sent ≡ sent ++ sent_by_controller (step_of does input server) time link server new
    → (record { servers = set servers place new; sent = new_sent }) ≡ stepped_at does input connection time link place (slice_get servers place) (record { servers = servers; sent = sent })
unfolding stepped_at
stepped_there {Object} does input connection time link place servers server new sent new_sent below is_server new_is sent_is =
    let after = controller_after (step_of does input server) connection (length sent) server
    in let all : ClockedControllerState Object → List OnLink → Stepped Object = λ one more. record { servers = set servers place one; sent = more }
    in ap (λ one. all one new_sent) new_is
    ∙ ap (all after) (sent_is ∙ ap (λ one. sent ++ sent_by_controller (step_of does input server) time link server one) new_is)
    ∙ ap (λ found. stepped_at does input connection time link place found (record { servers = servers; sent = sent })) (sym (slice_get_read servers (length servers) place server refl below is_server))

pub signal_world : (site : Site) (input : Input) (connection place : ℕ) (world : WorldState) (time : ℕ) (signals : List (ClockedControllerState SignalState)) (sent : List OnLink) → time ≡ world.time
    → (record { servers = signals; sent = sent }) ≡ stepped_at signal_behaviour input connection world.time place place (slice_get world.signals place) (record { servers = world.signals; sent = world.sent })
    → record world { time = time; signals = signals; sent = sent } ≡ signal_stepped site input connection place world
unfolding signal_stepped
signal_world site input connection place world time signals sent same_time all_are =
    ap (λ t. record world { time = t; signals = signals; sent = sent }) same_time
    ∙ ap (λ (all : Stepped SignalState). record world { signals = all.servers; sent = all.sent }) all_are

pub point_world : (site : Site) (input : Input) (connection place link : ℕ) (world : WorldState) (time : ℕ) (points : List (ClockedControllerState PointState)) (sent : List OnLink) → time ≡ world.time → link ≡ point_link site place
    → (record { servers = points; sent = sent }) ≡ stepped_at point_behaviour input connection world.time link place (slice_get world.points place) (record { servers = world.points; sent = world.sent })
    → record world { time = time; points = points; sent = sent } ≡ point_stepped site input connection place world
unfolding point_stepped
point_world site input connection place link world time points sent same_time is_link all_are =
    ap (λ t. record world { time = t; points = points; sent = sent }) same_time
    ∙ ap (λ (all : Stepped PointState). record world { points = all.servers; sent = all.sent })
    (all_are ∙ ap (λ l. stepped_at point_behaviour input connection world.time l place (slice_get world.points place) (record { servers = world.points; sent = world.sent })) is_link)

pub detector_world : (site : Site) (input : Input) (connection place link : ℕ) (world : WorldState) (time : ℕ) (detectors : List (ClockedControllerState (List Section))) (sent : List OnLink) → time ≡ world.time
    → link ≡ detector_link site place
    → (record { servers = detectors; sent = sent }) ≡ stepped_at detection_behaviour input connection world.time link place (slice_get world.detectors place) (record { servers = world.detectors; sent = world.sent })
    → record world { time = time; detectors = detectors; sent = sent } ≡ detector_stepped site input connection place world
unfolding detector_stepped
detector_world site input connection place link world time detectors sent same_time is_link all_are =
    ap (λ t. record world { time = t; detectors = detectors; sent = sent }) same_time
    ∙ ap (λ (all : Stepped (List Section)). record world { detectors = all.servers; sent = all.sent })
    (all_are ∙ ap (λ l. stepped_at detection_behaviour input connection world.time l place (slice_get world.detectors place) (record { servers = world.detectors; sent = world.sent })) is_link)

-- ---- a restart

changed_there : {A : Type 0} (change : A → A) (all : List A) (place : ℕ) (one : A) → place < length all → one ≡ get_or all place one → set all place (change one) ≡ changed change place all
changed_there change [] place one below is_one = refl
changed_there change (first ∷ others) zero one below is_one = ap (λ o. change o ∷ others) is_one
changed_there change (first ∷ others) (suc place) one below is_one = ap (λ all. first ∷ all) (changed_there change others place one (omega arith) is_one)

made_anew : {Object : Type 0} (servers : List (ClockedControllerState Object)) (place clock moment sent : ℕ) (host wanted : HostState Object) (old new : ClockedControllerState Object) → host ≡ wanted → moment ≡ sent
    → new ≡ controller_anew host clock moment old → place < length servers → old ≡ get_or servers place old → set servers place new ≡ changed (controller_anew wanted clock sent) place servers
made_anew servers place clock moment sent host wanted old new host_is moment_is new_is below is_old =
    ap (set servers place) (new_is ∙ ap (λ m. controller_anew host clock m old) moment_is ∙ ap (λ h. controller_anew h clock sent old) host_is)
    ∙ changed_there (controller_anew wanted clock sent) servers place old below is_old

pub entry_there : {A : Type 0} (entries same : List A) (place : ℕ) (entry : A) → entries ≡ same → place < length same → entry ≡ get_or entries place entry → slice_get same place ≡ Some entry
entry_there entries same place entry are_same below is_entry = slice_get_read same (length same) place entry refl below (is_entry ∙ ap (λ all. get_or all place entry) are_same)

pub signal_restarted : (site : Site) (begins : Beginning) (place moment : ℕ) (entry : SignalEntry) (world : WorldState) (host : HostState SignalState) (old new : ClockedControllerState SignalState)
    → slice_get site.signals place ≡ Some entry → host ≡ new_signal site begins entry → moment ≡ length world.sent → new ≡ controller_anew host begins.clock moment old
    → place < length world.signals → old ≡ get_or world.signals place old → record world { signals = set world.signals place new } ≡ signal_anew site begins place (slice_get site.signals place) world
signal_restarted site begins place moment entry world host old new there host_is moment_is new_is below is_old =
    ap (λ all. record world { signals = all }) (made_anew world.signals place begins.clock moment (length world.sent) host (new_signal site begins entry) old new host_is moment_is new_is below is_old)
    ∙ ap (λ found. signal_anew site begins place found world) (sym there)

pub point_restarted : (site : Site) (begins : Beginning) (place moment : ℕ) (position : Position) (entry : PointEntry) (world : WorldState) (host : HostState PointState) (old new : ClockedControllerState PointState)
    → slice_get site.points place ≡ Some entry → place < length world.positions → position ≡ get_or world.positions place position → host ≡ new_point site begins position entry → moment ≡ length world.sent
    → new ≡ controller_anew host begins.clock moment old → place < length world.points → old ≡ get_or world.points place old
    → record world { points = set world.points place new } ≡ point_anew site begins place (slice_get site.points place) world
point_restarted site begins place moment position entry world host old new there within is_position host_is moment_is new_is below is_old =
    let stands = get_or_read world.positions place position within is_position positions.NoEndPosition
    in ap (λ all. record world { points = all })
    (made_anew world.points place begins.clock moment (length world.sent) host (new_point site begins (slice_index_or world.positions place positions.NoEndPosition) entry) old new
    (host_is ∙ ap (λ p. new_point site begins p entry) stands) moment_is new_is below is_old)
    ∙ ap (λ found. point_anew site begins place found world) (sym there)

pub detector_restarted : (site : Site) (begins : Beginning) (place moment : ℕ) (occupied : List Occupancy) (entry : DetectorEntry) (world : WorldState) (host : HostState (List Section)) (old new : ClockedControllerState (List Section))
    → slice_get site.detectors place ≡ Some entry → occupied ≡ world.occupancies → host ≡ new_detector site begins occupied entry → moment ≡ length world.sent
    → new ≡ controller_anew host begins.clock moment old → place < length world.detectors → old ≡ get_or world.detectors place old
    → record world { detectors = set world.detectors place new } ≡ detector_anew site begins place (slice_get site.detectors place) world
detector_restarted site begins place moment occupied entry world host old new there same_occupied host_is moment_is new_is below is_old =
    ap (λ all. record world { detectors = all })
    (made_anew world.detectors place begins.clock moment (length world.sent) host (new_detector site begins world.occupancies entry) old new
    (host_is ∙ ap (λ o. new_detector site begins o entry) same_occupied) moment_is new_is below is_old)
    ∙ ap (λ found. detector_anew site begins place found world) (sym there)
