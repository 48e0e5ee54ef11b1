-- That what comes next to an end of a link of a station is what the end expects.
use Rattle.std.specs.Prelude.{◌≡◌, ℕ, ◌+◌, ◌≤◌, true, false, List, length, Some, slice_get}
use Rattle.simulator_spec.specs.layout.Entries.{Site}
use Rattle.simulator_spec.specs.rasta_core.Links.{Links, seen}
use Rattle.simulator_spec.specs.rasta_core.Run.{Ends}
use Rattle.simulator_spec.specs.rasta_core.State.{is_open, is_up}
use Rattle.simulator_spec.specs.sci_telegram.TelegramRead.{reading}
use Rattle.simulator_spec.specs.object_host.Behaviour.{Behaviour}
use Rattle.simulator_spec.specs.object_host.Host.{HostState, is_outside}
use Rattle.simulator_spec.specs.signal_ctl.Signal.{SignalState, signal_behaviour}
use Rattle.simulator_spec.specs.point_ctl.Controlled.{point_behaviour}
use Rattle.simulator_spec.specs.point_ctl.Drive.{PointState}
use Rattle.simulator_spec.specs.point_ctl.History.{unanswered}
use Rattle.simulator_spec.specs.tds_ctl.Controlled.{detection_behaviour}
use Rattle.simulator_spec.specs.tds_ctl.declared.section.Section.{Section}
use Rattle.simulator_spec.specs.ixl_client.Client.{ClientState}
use Rattle.simulator_spec.specs.ixl_client.ExpectedTelegrams.{IsExpected}
use Rattle.simulator_spec.specs.ixl_spec.State.{KnownDetectorState, KnownPointState, KnownSignalState}
use Rattle.simulator_spec.specs.Nodes.{detector_link, point_link}
use Rattle.simulator_spec.specs.State.{ClockedControllerState, WorldState}
use Rattle.simulator_link_laws.specs.HasLinks.{HasLinks, links_in}
use Rattle.simulator_recovery.specs.Conversation.{HostExpectsItem}

-- In a connection that is the last of both ends, the item that the controller has given after all that its client has taken, if there
-- is one, is what the client expects by its stage.
abbrev pub NextIsExpected : ClientState → Ends → Type 0
NextIsExpected client ends = (connection : ℕ) → ends.client.connection ≡ Some connection → ends.server.connection ≡ Some connection → is_up client.link.phase ≡ true
    → (item : List ℕ) → slice_get ends.server.given (length ends.client.taken) ≡ Some item → IsExpected client.peer client.stage (reading item)

-- So it is with each signal, each point and each detector.
pub record AllExpectNext (site : Site) (world : WorldState) (network : Links) : Type 0 where
  pub signals : (place : ℕ) (known : KnownSignalState) → slice_get world.interlocking.ixl.known_signals place ≡ Some known → NextIsExpected known.client (seen place network)
  pub points : (place : ℕ) (known : KnownPointState) → slice_get world.interlocking.ixl.known_points place ≡ Some known → NextIsExpected known.client (seen (point_link site place) network)
  pub detectors : (place : ℕ) (known : KnownDetectorState) → slice_get world.interlocking.ixl.detectors place ≡ Some known → NextIsExpected known.client (seen (detector_link site place) network)

-- the links of a station, and what comes next to its clients there
pub record HaveNext (site : Site) (world : WorldState) : Type 0 where
  pub has : HasLinks site world
  pub next : AllExpectNext site world (links_in has)

-- Where a host's link is open, in a connection that is the last of both ends, the item that its client has given after all that the
-- controller has taken, if there is one, is what the host expects by its stage, at any reading.
abbrev pub NextFits : {Object : Type 0} → Behaviour Object → HostState Object → Ends → Type 0
NextFits does host ends = (connection : ℕ) → ends.client.connection ≡ Some connection → ends.server.connection ≡ Some connection → is_open ends.server.link.phase ≡ true
    → is_outside host.stage ≡ false → (now : ℕ) (item : List ℕ) → slice_get ends.client.given (length ends.server.taken) ≡ Some item → HostExpectsItem does now host (reading item)

-- So it is with each signal, each point and each detector.
pub record AllFitNext (site : Site) (world : WorldState) (network : Links) : Type 0 where
  pub signals : (place : ℕ) (controller : ClockedControllerState SignalState) → slice_get world.signals place ≡ Some controller → NextFits signal_behaviour controller.host (seen place network)
  pub points : (place : ℕ) (controller : ClockedControllerState PointState) → slice_get world.points place ≡ Some controller → NextFits point_behaviour controller.host (seen (point_link site place) network)
  pub detectors : (place : ℕ) (controller : ClockedControllerState (List Section)) → slice_get world.detectors place ≡ Some controller → NextFits detection_behaviour controller.host (seen (detector_link site place) network)

-- the links of a station, and what comes next to its controllers there
pub record HaveFitting (site : Site) (world : WorldState) : Type 0 where
  pub has : HasLinks site world
  pub next : AllFitNext site world (links_in has)

-- ---- how much a point reports

-- In a connection that is the last of both ends, the controller has given at most two items more than its client.
abbrev pub GivesAtMostTwoMore : Ends → Type 0
GivesAtMostTwoMore ends = (connection : ℕ) → ends.client.connection ≡ Some connection → ends.server.connection ≡ Some connection → length ends.server.given ≤ 2 + length ends.client.given

-- For the two items that ask for it a point's initialisation has four: the answer of the version, *start*, where the point stands, and
-- *completed*. Then each report answers a move.
pub record AnswersOnce (host : HostState PointState) (ends : Ends) : Type 0 where
  -- what the controller has given, with the move that waits for its report, if there is one
  pub waits : is_open host.link.phase ≡ true → length ends.server.given + unanswered host.object.progress ≤ 2 + length ends.server.taken
  pub ever : length ends.server.given ≤ 2 + length ends.server.taken
  pub no_more : GivesAtMostTwoMore ends

-- the links of a station, and what its points have given there
pub record HaveAnswered (site : Site) (world : WorldState) : Type 0 where
  pub has : HasLinks site world
  pub points : (place : ℕ) (controller : ClockedControllerState PointState) → slice_get world.points place ≡ Some controller
      → AnswersOnce controller.host (seen (point_link site place) (links_in has))
