-- What happens at the controller of a detector, and a loss: the machine sees nothing of it.
use Rattle.std.proofs.Common.{◌≡◌, ◌≢◌, ℕ, ◌+◌, ◌<◌, List, ◌∷◌, [], ◌++◌, length, Option, Some, None, slice_get, slice_set, refl, sym, subst, arith}
use Rattle.simulator_link_laws.specs.sci_telegram.declared.message.Occupancy.{Occupancy}
use Rattle.simulator_link_laws.specs.layout.Entries.{DetectorEntry, Site}
use Rattle.simulator_link_laws.specs.rasta_core.Links.{Links, LosesAny, run_links, without_oldest_of_all}
use Rattle.simulator_link_laws.specs.object_host.declared.input.Input.{Input}
use Rattle.simulator_link_laws.specs.object_host.declared.input.Input.TheVariants as inputs
use Rattle.simulator_link_laws.specs.object_host.declared.sense.Sense.TheVariants as sense
use Rattle.simulator_link_laws.specs.tds_ctl.Controlled.{detection_behaviour}
use Rattle.simulator_link_laws.specs.tds_ctl.declared.section.Section.{Section}
use Rattle.simulator_link_laws.specs.ixl_spec.Table.{Table}
use Rattle.simulator_machine.specs.Machine.{Machine}
use Rattle.simulator_link_laws.specs.Events.{anew_events, contact_events, host_events}
use Rattle.simulator_link_laws.specs.simulator_spec.First.{Beginning}
use Rattle.simulator_link_laws.specs.simulator_spec.Happens.{detector_anew, detector_stepped, sensed_by, stepped_at}
use Rattle.simulator_link_laws.specs.simulator_spec.Nodes.{detector_link}
use Rattle.simulator_link_laws.specs.simulator_spec.Controllers.{controller_after, sent_by_controller, step_of}
use Rattle.simulator_link_laws.specs.simulator_spec.State.{ClockedControllerState, WorldState}
use Rattle.simulator_safety.specs.Represents.{IsNetworkOf, Represents, RepresentsAfter}
use Rattle.simulator_safety.specs.Change.{NoneChanges}
use Rattle.simulator_safety.proofs.ControllerSteps.{CallLaws, SeesAnew, clients_anew, clients_stepped, servers_anew, servers_stepped}

abbrev pub NoneLaw : Type 0
NoneLaw = (site : Site) (table : Table) (world new : WorldState) (machine : Machine) (represented : Represents site table world machine) (after : Links)
    → NoneChanges site world new represented.network after → RepresentsAfter site table machine new

-- the laws that this stands on
pub record DetectorLaws : Type 0 where
  pub calling : CallLaws
  pub anew : SeesAnew
  pub change : NoneLaw

detector_is : (site : Site) (world : WorldState) (input : Input) (connection place : ℕ) (server : ClockedControllerState (List Section)) → slice_get world.detectors place ≡ Some server → detector_stepped site input connection place world ≡ record world {
  detectors = slice_set world.detectors place (controller_after (step_of detection_behaviour input server) connection (length world.sent) server);
  sent = world.sent ++ sent_by_controller (step_of detection_behaviour input server) world.time (detector_link site place) server (controller_after (step_of detection_behaviour input server) connection (length world.sent) server);
}
unfolding detector_stepped stepped_at
detector_is site world input connection place server is = rw is refl

detector_none : (site : Site) (world : WorldState) (input : Input) (connection place : ℕ) → slice_get world.detectors place ≡ None → detector_stepped site input connection place world ≡ world
unfolding detector_stepped stepped_at
detector_none site world input connection place is = rw is refl

-- no signal and no point has a detector's link
other_link : (site : Site) (place link : ℕ) → link < length site.signals + length site.points → link ≢ detector_link site place
other_link site place link below = λ same. omega (arith, below, same)

-- ---- a loss

module _ (change : NoneLaw) (site : Site) (table : Table) (world : WorldState) (machine : Machine) (represented : Represents site table world machine) where
  pub loss_is_unseen : (bytes : List ℕ) → IsNetworkOf site (record world { sent = without_oldest_of_all bytes world.sent }) (run_links (LosesAny bytes ∷ []) represented.network)
      → RepresentsAfter site table machine (record world { sent = without_oldest_of_all bytes world.sent })
  loss_is_unseen bytes linked = change site table world (record world { sent = without_oldest_of_all bytes world.sent }) machine represented (run_links (LosesAny bytes ∷ []) represented.network) (record {
    leaves = record { linked = linked; station = refl; frozen = refl; clients = λ link. refl };
    signals = refl;
    points = refl;
    positions = refl;
    servers = λ link below. refl;
  })

  -- no link is changed
  pub nothing_is_unseen : (occupancies : List Occupancy) → IsNetworkOf site (record world { occupancies = occupancies }) represented.network → RepresentsAfter site table machine (record world { occupancies = occupancies })
  nothing_is_unseen occupancies linked = change site table world (record world { occupancies = occupancies }) machine represented represented.network (record {
    leaves = record { linked = linked; station = refl; frozen = refl; clients = λ link. refl };
    signals = refl;
    points = refl;
    positions = refl;
    servers = λ link below. refl;
  })

module _ (laws : DetectorLaws) (site : Site) (table : Table) (world : WorldState) (machine : Machine) (represented : Represents site table world machine) where
  abbrev before : Links
  before = represented.network

  -- ---- a step, where sections may be occupied otherwise

  module _ (input : Input) (connection place : ℕ) (occupancies : List Occupancy) where
    abbrev moved : WorldState
    moved = record world { occupancies = occupancies }

    abbrev events : Option (ClockedControllerState (List Section)) → Links
    events found = run_links (host_events detection_behaviour input connection (detector_link site place) found) before

    pub detector_steps : IsNetworkOf site (detector_stepped site input connection place moved) (events (slice_get world.detectors place))
        → RepresentsAfter site table machine (detector_stepped site input connection place moved)
    detector_steps linked = cases (slice_get world.detectors place) refl linked where
      step : (server : ClockedControllerState (List Section)) → (new : WorldState) → new.interlocking ≡ world.interlocking → new.frozen ≡ world.frozen → new.signals ≡ world.signals → new.points ≡ world.points → new.positions ≡ world.positions
          → IsNetworkOf site new (events (Some server)) → RepresentsAfter site table machine new
      step server new station frozen signals points positions linked = laws.change site table world new machine represented (events (Some server)) (record {
        leaves = record { linked = linked; station = station; frozen = frozen; clients = clients_stepped laws.calling (detector_link site place) connection (step_of detection_behaviour input server).calls before };
        signals = signals;
        points = points;
        positions = positions;
        servers = λ link below. servers_stepped laws.calling (detector_link site place) connection (step_of detection_behaviour input server).calls before link (other_link site place link below);
      })

      cases : (found : Option (ClockedControllerState (List Section))) → slice_get world.detectors place ≡ found → IsNetworkOf site (detector_stepped site input connection place moved) (events found)
          → RepresentsAfter site table machine (detector_stepped site input connection place moved)
      cases None is linked = subst (RepresentsAfter site table machine) (sym (detector_none site moved input connection place is))
          (nothing_is_unseen laws.change site table world machine represented occupancies (subst (λ w. IsNetworkOf site w before) (detector_none site moved input connection place is) linked))
      cases (Some server) is linked = subst (RepresentsAfter site table machine) (sym (detector_is site moved input connection place server is))
          (step server _ refl refl refl refl refl (subst (λ w. IsNetworkOf site w (events (Some server))) (detector_is site moved input connection place server is) linked))

  pub contact_is_unseen : (occupancy : Occupancy) (occupancies : List Occupancy) (reporter : Option (ℕ × ℕ))
      → IsNetworkOf site (sensed_by site occupancy reporter (record world { occupancies = occupancies })) (run_links (contact_events site reporter (λ place. inputs.Sense (sense.Section place occupancy)) world.detectors) before)
      → RepresentsAfter site table machine (sensed_by site occupancy reporter (record world { occupancies = occupancies }))
  contact_is_unseen occupancy occupancies None linked = nothing_is_unseen laws.change site table world machine represented occupancies linked
  contact_is_unseen occupancy occupancies (Some reporter) linked = detector_steps (inputs.Sense (sense.Section reporter.1 occupancy)) 0 reporter.0 occupancies linked

  -- ---- made anew

  pub detector_restarts : (begins : Beginning) (place : ℕ) (found : Option DetectorEntry)
      → IsNetworkOf site (detector_anew site begins place found world) (run_links (anew_events begins.clock begins.first (detector_link site place) found) before)
      → RepresentsAfter site table machine (detector_anew site begins place found world)
  detector_restarts begins place None linked = nothing_is_unseen laws.change site table world machine represented world.occupancies linked
  detector_restarts begins place (Some entry) linked =
      laws.change site table world (detector_anew site begins place (Some entry) world) machine represented (run_links (anew_events begins.clock begins.first (detector_link site place) (Some entry)) before) (record {
        leaves = record { linked = linked; station = refl; frozen = refl; clients = clients_anew laws.anew (detector_link site place) begins.clock begins.first before };
        signals = refl;
        points = refl;
        positions = refl;
        servers = λ link below. servers_anew laws.anew (detector_link site place) begins.clock begins.first before link (other_link site place link below);
      })
