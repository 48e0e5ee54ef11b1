-- A point that rests after a good round rests after all later ones, while no request comes and nothing is told of its own section.
use Rattle.simulator_recovery.proofs.Words.Basics.{◌≡◌, ℕ, ◌<◌, ◌∙◌, true, List, [], ◌∷◌, ◌++◌, length, map, Some, slice_get, refl, sym, ap, false≢true, same_Some}
use Rattle.simulator_recovery.proofs.Words.Links.{settled, Each, reading_of, LinkState, is_up}
use Rattle.simulator_recovery.proofs.Words.Interlockings.{IsTableOf, ClientState, is_available, is_ready, Stage, IxlState, KnownPointState, SitedTable, Table}
use Rattle.simulator_recovery.proofs.Words.Stations.{Site, Once, IsStation, Event, Flowing, client_links, detector_link, point_link, WorldState, client_states}
use Rattle.simulator_recovery.proofs.Words.Recovery.{IsPointReady, IsOccupancyElsewhere, IsReadyOn, IsClientUp, Throughout, IsWork, good_rounds, AwaitsMove, LawsBelow}
use Rattle.simulator_recovery.proofs.Lemmas.Ground.AtLink.{mapped}
use Rattle.simulator_recovery.proofs.Lemmas.Ground.EndCalls.{map_both}
use Rattle.simulator_recovery.proofs.Lemmas.Points.QuietBase.{KnownToHolders, resting_first}
use Rattle.simulator_recovery.proofs.Lemmas.Points.QuietRest.{AreUp, LeavesAlone, Rests, rests_on, whole_at, both_throughout, rounds_on}
use Rattle.simulator_recovery.proofs.Lemmas.Points.QuietStart.{Start, clear_or}
use Rattle.simulator_recovery.proofs.Lemmas.Rounds.Rounds.{IsAt}
use Rattle.simulator_recovery.proofs.Lemmas.Sections.SectionsInTime.{HoldsOfRounds}
use Rattle.simulator_recovery.proofs.Lemmas.RoutesComing.UnheldAccepted.{ready_point}

-- ---- a link that is ready is up

abbrev link_of : ClientState → LinkState
link_of client = client.link

mapped_twice : {A : Type 0} (client : A → ClientState) (list : List A) → map link_of (map client list) ≡ map (λ one. (client one).link) list
mapped_twice client [] = refl
mapped_twice client (first ∷ others) = ap (λ (links : List LinkState). (client first).link ∷ links) (mapped_twice client others)

links_of_states : (ixl : IxlState) → map link_of (client_states ixl) ≡ client_links ixl
links_of_states ixl = map_both link_of _ _ ∙ (ap (λ (list : List LinkState). list ++ map link_of (map (λ point. point.client) ixl.known_points ++ map (λ detector. detector.client) ixl.detectors))
    (mapped_twice (λ signal. signal.client) ixl.known_signals)
    ∙ ap (λ (list : List LinkState). map (λ signal. signal.client.link) ixl.known_signals ++ list) (map_both link_of _ _
    ∙ (ap (λ (list : List LinkState). list ++ map link_of (map (λ detector. detector.client) ixl.detectors)) (mapped_twice (λ point. point.client) ixl.known_points)
    ∙ ap (λ (list : List LinkState). map (λ point. point.client.link) ixl.known_points ++ list) (mapped_twice (λ detector. detector.client) ixl.detectors))))

pub ready_up : (site : Site) (link : ℕ) (world : WorldState) → IsReadyOn site link world → IsClientUp link world
ready_up site link world ready = record {
  client = ready.client;
  there = ready.there;
  up = ap (λ (l : LinkState). is_up (settled (reading_of world.interlocking.clock) l).phase) same ∙ ready.up.client_up;
}
  where
    same : ready.client.link ≡ ready.up.client
    same = same_Some ready.client.link ready.up.client (sym (mapped link_of (client_states world.interlocking.ixl) link ready.client ready.there)
        ∙ (ap (λ (links : List LinkState). slice_get links link) (links_of_states world.interlocking.ixl) ∙ ready.up.client_there))

-- ---- events

pub elsewhere_work : (section : ℕ) (one : Event) → IsOccupancyElsewhere section one → IsWork one
elsewhere_work section (Event.Occupy other occupancy) is = tt
elsewhere_work section (Event.Request command) is = tt
elsewhere_work section (Event.Tick node) is = absurd is
elsewhere_work section (Event.Time elapsed clocks) is = absurd is
elsewhere_work section (Event.Deliver node bytes) is = absurd is
elsewhere_work section (Event.Lose bytes) is = absurd is
elsewhere_work section (Event.Reach point position) is = absurd is
elsewhere_work section (Event.Restart node clock first) is = absurd is

pub elsewhere_alone : (site : Site) (table : Table) (section : ℕ) (one : Event) → IsOccupancyElsewhere section one → LeavesAlone site table section one
elsewhere_alone site table section (Event.Occupy other occupancy) is = (tt, is)
elsewhere_alone site table section (Event.Request command) is = absurd is
elsewhere_alone site table section (Event.Tick node) is = absurd is
elsewhere_alone site table section (Event.Time elapsed clocks) is = absurd is
elsewhere_alone site table section (Event.Deliver node bytes) is = absurd is
elsewhere_alone site table section (Event.Lose bytes) is = absurd is
elsewhere_alone site table section (Event.Reach point position) is = absurd is
elsewhere_alone site table section (Event.Restart node clock first) is = absurd is

-- what each of some is, they are in another way
pub each_as : {X : Type 0} (P Q : X → Type 0) → ((x : X) → P x → Q x) → (list : List X) → Each P list → Each Q list
each_as P Q so [] each = tt
each_as P Q so (first ∷ others) each = (so first each.0, each_as P Q so others each.1)

-- ---- the point, after a round

pub available_not : (known : KnownPointState) → is_available known.client.stage ≡ true → known.client.stage ≡ Stage.AwaitsReport → ⊥
available_not known available awaits = false≢true (ap is_available (sym awaits) ∙ available)

pub available_or : (s : Stage) → is_ready s ≡ true → (s ≡ Stage.AwaitsReport → ⊥) → is_available s ≡ true
available_or Stage.Completed ready never = refl
available_or Stage.AwaitsReport ready never = absurd (never refl)
available_or Stage.Outside ready never = absurd (false≢true ready)
available_or Stage.AwaitsAnswer ready never = absurd (false≢true ready)
available_or Stage.AwaitsStart ready never = absurd (false≢true ready)
available_or (Stage.AwaitsStatus left) ready never = absurd (false≢true ready)

module _ (laws : LawsBelow) (sited : SitedTable) (station : IsStation sited.site) (once : Once sited.site) (is_table : IsTableOf sited.site sited.table) (point : ℕ) (few : point < length sited.site.points)
    (section : ℕ) (own : slice_get sited.table.point_sections point ≡ Some section) (reporter : ℕ × ℕ) (reported : slice_get sited.table.reporters section ≡ Some reporter) where
  abbrev site : Site
  site = sited.site

  abbrev table : Table
  table = sited.table

  abbrev StartIn : WorldState → Type 0
  StartIn = Start laws site table station once is_table section reporter reported

  alone_in_rounds : HoldsOfRounds (LeavesAlone site table section)
  alone_in_rounds = record { times = λ s. (tt, tt); comes = λ node bytes. (tt, tt); ticks = λ node. (tt, tt); reaches = λ place position. (tt, tt) }

  -- A point of which no move is out after a round rests after the later ones.
  module _ (start : Flowing) (at : IsAt sited start.state) (s : StartIn start.state.run) (know : KnownToHolders table start.state.run point)
      (ready : IsReadyOn site (point_link site point) start.state.run) (detector_ready : IsReadyOn site (detector_link site reporter.0) start.state.run) where
    abbrev UpBoth : WorldState → Type 0
    UpBoth = AreUp laws sited station once is_table point few section own reporter reported s.occupancy s.bound s.first s.far s.was_told

    abbrev RestsIn : WorldState → Type 0
    RestsIn = Rests laws sited station once is_table point few section own reporter reported s.occupancy s.bound s.first s.far s.was_told

    first_up : UpBoth start.state.run
    first_up = (ready_up site (point_link site point) start.state.run ready, ready_up site (detector_link site reporter.0) start.state.run detector_ready)

    ready_here : IsPointReady start.state.run.interlocking.ixl point
    ready_here = ready_point site start.state.run (whole_at laws sited station once is_table point few section own reporter reported s.occupancy s.bound s.first s.far s.was_told start.state.run at.reached) point few ready

    first_rests : (AwaitsMove point start.state.run → ⊥) → RestsIn start.state.run
    first_rests none_out = record {
      network = s.network;
      told = s.told;
      resting = resting_first laws.move_is_given_where_due laws.request_is_accepted_where_admissible site table is_table start.state.run at.reached point _ know ready_here.0 ready_here.1
          (available_or ready_here.0.client.stage ready_here.2 (λ awaits. none_out (ready_here.0, ready_here.1, awaits)))
          (λ unclear. clear_or laws site table station once is_table section reporter reported start.state.run s first_up.1 s.occupancy refl (λ clear. unclear (section, own, clear)));
    }

    pub rests_later : (rounds : List (List Event)) → Each (Each (IsOccupancyElsewhere section)) rounds → (AwaitsMove point start.state.run → ⊥)
        → Throughout (λ w. IsClientUp (point_link site point) w.run) rounds start → Throughout (λ w. IsClientUp (detector_link site reporter.0) w.run) rounds start
        → AwaitsMove point (good_rounds rounds start).state.run → ⊥
    rests_later rounds quiet none_out ups detector_ups awaits = by_rest (rounds_on laws sited (LeavesAlone site table section) alone_in_rounds UpBoth RestsIn
        (rests_on laws sited station once is_table point few section own reporter reported s.occupancy s.bound s.first s.far s.was_told) rounds start at
        (each_as (Each (IsOccupancyElsewhere section)) (Each (LeavesAlone site table section)) (λ list. each_as (IsOccupancyElsewhere section) (LeavesAlone site table section)
        (elsewhere_alone site table section) list) rounds quiet) first_up (first_rests none_out)
        (both_throughout (λ w. IsClientUp (point_link site point) w.run) (λ w. IsClientUp (detector_link site reporter.0) w.run) rounds start ups detector_ups))
      where
        by_rest : RestsIn (good_rounds rounds start).state.run → ⊥
        by_rest r = available_not r.resting.known r.resting.available (ap (λ (k : KnownPointState). k.client.stage) (same_Some r.resting.known awaits.0 (sym r.resting.there ∙ awaits.1)) ∙ awaits.2)
