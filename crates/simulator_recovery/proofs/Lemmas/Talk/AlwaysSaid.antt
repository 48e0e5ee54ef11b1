-- What the controllers of a station have given by their stages, after every list of events.
use Rattle.simulator_recovery.proofs.Words.Basics.{◌≡◌, ℕ, ◌∙◌, true, false, arith, length, List, refl, sym, false≢true, slice_get_within, ap, zip}
use Rattle.simulator_recovery.proofs.Words.Links.{created, Identity, reading_of, Links, run_links, is_open, begun}
use Rattle.simulator_recovery.proofs.Words.Controllers.{Behaviour, HostState, keeping, new_host, item_of, SignalState, signal_behaviour, point_behaviour, PointState, detection_behaviour, Section}
use Rattle.simulator_recovery.proofs.Words.Interlockings.{Table}
use Rattle.simulator_recovery.proofs.Words.Stations.{Site, Event, controller_after, happens, AreLinksOf, WorldState, events_of, IsWhole, Once, IsStation, IsOutsetOf, Outset, point_standing, world_at, names_at, starts_at_zero, ClockedControllerState, IsReached}
use Rattle.simulator_recovery.proofs.Words.Recovery.{AllHaveSaid, AllStandByCounts, HostHasSaid, HostStandsByCounts, TellsAsMany, objects_told, LawsBelow, LawsOfHost, HaveSaid}
use Rattle.simulator_recovery.proofs.Lemmas.Talk.ControllerSaid.{controller_said}
use Rattle.simulator_recovery.proofs.Lemmas.Ground.ControllersOnLinks.{ControllersKeep, Lists, On, StepKeeps, held_after}
use Rattle.simulator_recovery.proofs.Lemmas.Talk.HostLinks.{new_stands, step_stands}
use Rattle.simulator_recovery.proofs.Lemmas.Ground.EndCalls.{at_place}
use Rattle.simulator_recovery.proofs.Lemmas.Talk.Standing.{detectors_tell, points_tell, signals_tell, stand_after, stand_first}
use Rattle.simulator_recovery.proofs.Lemmas.Ground.SectionsEvents.{CanBe, always_held}
use Rattle.simulator_recovery.proofs.Lemmas.Ground.IxlClients.{mapped_at}

-- ---- what the controllers of a station have given by their stages, event by event

pub new_closed : {Object : Type 0} (does : Behaviour Object) (identity : Identity) (own_name peer_name : List ℕ) (first now : ℕ) (object : Object) (version : ℕ) → is_open (new_host does identity own_name peer_name first now object version).link.phase ≡ false
unfolding new_host keeping created
new_closed does identity own_name peer_name first now object version = refl

-- a controller counts by its stage, and has given what this tells
record Says {Object : Type 0} (does : Behaviour Object) (host : HostState Object) (items : Lists) : Type 0 where
  objects : ℕ
  counts : HostStandsByCounts does objects host
  said : is_open host.link.phase ≡ true → HostHasSaid does (item_of host) host.version host.stage items.given

steps_say : {Object : Type 0} (does : Behaviour Object) → TellsAsMany does → LawsOfHost does → StepKeeps does (λ place. Says does)
unfolding controller_after
steps_say does many kind input connection place c ends link_is clock_is s = record {
  objects = s.objects;
  counts = step_stands does many s.objects (reading_of c.clock) input c.host s.counts;
  said = controller_said does many s.objects kind input connection 0 c ends link_is clock_is s.counts s.said;
}

new_says : {Object : Type 0} (does : Behaviour Object) → TellsAsMany does → (identity : Identity) (own_name peer_name : List ℕ) (first now : ℕ) (object : Object) (version : ℕ) (items : Lists) → Says does (new_host does identity own_name peer_name first now object version) items
new_says does many identity own_name peer_name first now object version items = record {
  objects = objects_told does object;
  counts = new_stands does many (objects_told does object) identity own_name peer_name first now object version refl;
  said = λ e. absurd (false≢true (sym (new_closed does identity own_name peer_name first now object version) ∙ e));
}

module _ (laws : LawsBelow) (site : Site) (table : Table) where
  abbrev OfSignal : ℕ → HostState SignalState → Lists → Type 0
  OfSignal place = Says signal_behaviour

  abbrev OfPoint : ℕ → HostState PointState → Lists → Type 0
  OfPoint place = Says point_behaviour

  abbrev OfDetector : ℕ → HostState (List Section) → Lists → Type 0
  OfDetector place = Says detection_behaviour

  keeps : ControllersKeep site OfSignal OfPoint OfDetector
  keeps = record {
    signals = steps_say signal_behaviour signals_tell laws.signals;
    points = steps_say point_behaviour points_tell laws.points;
    detectors = steps_say detection_behaviour detectors_tell laws.detectors;
    new_signals = λ begins place entry old items e s. new_says signal_behaviour signals_tell _ _ _ _ _ _ _ items;
    new_points = λ begins position place entry old items e s. new_says point_behaviour points_tell _ _ _ _ _ _ _ items;
    new_detectors = λ begins occupied place entry old items e s. new_says detection_behaviour detectors_tell _ _ _ _ _ _ _ items;
  }

  pub said_after : (happening : Event) (world : WorldState) (network : Links) → IsWhole site world → AreLinksOf site world network → AllStandByCounts site world → AllHaveSaid site world network
      → AllHaveSaid site (happens site table happening world) (run_links (events_of site table happening world) network)
  said_after happening world network whole are counts said = record { signals = λ place c e. (after.of_signals place c e).said; points = λ place c e. (after.of_points place c e).said; detectors = λ place c e. (after.of_detectors place c e).said }
    where
      before : On laws site table OfSignal OfPoint OfDetector keeps world network
      before = record {
        of_signals = λ place c e. record { objects = 1; counts = counts.signals place c e; said = said.signals place c e };
        of_points = λ place c e. record { objects = 1; counts = counts.points place c e; said = said.points place c e };
        of_detectors = λ place c e. let a = slice_get_within world.detectors place c e in let b = whole.detectors in let entry = at_place site.detectors place (omega (arith, a, b)) in
            record { objects = length entry.0.sections; counts = counts.detectors place c entry.0 e entry.1; said = said.detectors place c e };
      }

      after : On laws site table OfSignal OfPoint OfDetector keeps (happens site table happening world) (run_links (events_of site table happening world) network)
      after = held_after laws site table OfSignal OfPoint OfDetector keeps happening world network whole are before

-- ---- what the controllers of a station have given by their stages, after every list of events

module _ (site : Site) (table : Table) where
  -- at the beginning no link is open
  pub first_said : (outset : Outset) (network : Links) → AllHaveSaid site (world_at site table outset) network
  unfolding world_at
  first_said outset network = record {
    signals = λ place c e opened. let found = mapped_at _ site.signals place c e in absurd (false≢true (sym (new_closed signal_behaviour _ _ _ _ _ _ _) ∙ ap (λ (x : ClockedControllerState SignalState). is_open x.host.link.phase) (sym found.2) ∙ opened));
    points = λ place c e opened. let found = mapped_at (point_standing site) (zip site.points outset.positions) place c e in absurd (false≢true (sym (new_closed point_behaviour _ _ _ _ _ _ _) ∙ ap (λ (x : ClockedControllerState PointState). is_open x.host.link.phase) (sym found.2) ∙ opened));
    detectors = λ place c e opened. let found = mapped_at _ site.detectors place c e in absurd (false≢true (sym (new_closed detection_behaviour _ _ _ _ _ _ _) ∙ ap (λ (x : ClockedControllerState (List Section)). is_open x.host.link.phase) (sym found.2) ∙ opened));
  }

module _ (laws : LawsBelow) (site : Site) (table : Table) (station : IsStation site) (once : Once site) where
  record Say (world : WorldState) (network : Links) : Type 0 where
    counts : AllStandByCounts site world
    said : AllHaveSaid site world network

  first_say : (outset : Outset) → IsOutsetOf site outset → Say (world_at site table outset) (begun (names_at site) starts_at_zero)
  first_say outset lies = record { counts = stand_first site table station outset; said = first_said site table outset (begun (names_at site) starts_at_zero) }

  say_on : (happening : Event) (world : WorldState) (network : Links) → CanBe site table happening world network → Say world network → Say (happens site table happening world) (run_links (events_of site table happening world) network)
  say_on happening world network can say = record {
    counts = stand_after site table station happening world say.counts;
    said = said_after laws site table happening world network can.whole can.are say.counts say.said;
  }

  pub always_said : (world : WorldState) → IsReached site table world → HaveSaid site world
  always_said world reached = let held = always_held laws site table station once Say first_say say_on world reached in record { has = held.has; said = held.holds.said }
