-- A point that rests goes on to, event by event, while no request comes and nothing is told of its own section.
use Rattle.simulator_recovery.proofs.Words.Basics.{◌≡◌, List, [], ◌∷◌, map, None, sym, subst, ℕ, ◌<◌, ◌≤◌, ◌∙◌, false, length, Some, slice_get, ap, contains, false≢true, same_Some}
use Rattle.simulator_recovery.proofs.Words.Links.{Each, reading_of, Links, run_links}
use Rattle.simulator_recovery.proofs.Words.Interlockings.{SitedTable, IsTableOf, is_outside, At, IsClear, KnownDetectorState, Table}
use Rattle.simulator_recovery.proofs.Words.Stations.{Event, Flowing, round, happens, refusal, WorldState, Played, after, IsReached, Site, Once, IsStation, detector_link, point_link, events_of, IsStanding, IsWhole}
use Rattle.simulator_recovery.proofs.Words.Recovery.{behind_time, event_of, EachBehind, Throughout, events_of_round, all_tried, good_rounds, LawsBelow, IsInside, IsClientUp, LeavesSection, is_occupied}
use Rattle.simulator_recovery.proofs.Words.Controllers.{Occupancy, Occupied}
use Rattle.simulator_recovery.proofs.Lemmas.Rounds.LinkRounds.{after_each, round_tried}
use Rattle.simulator_recovery.proofs.Lemmas.Ground.EndCalls.{each_both}
use Rattle.simulator_recovery.proofs.Lemmas.Rounds.Rounds.{IsAt, behind_time_are, events_are, tried_keeps, tried_reached}
use Rattle.simulator_recovery.proofs.Lemmas.Sections.SectionsInTime.{HoldsOfRounds}
use Rattle.simulator_recovery.proofs.Lemmas.RoutesComing.DueKnown.{clients_stand}
use Rattle.simulator_recovery.proofs.Lemmas.Points.QuietSections.{IsTold, WasTold, held_so, known_there, known_up, told_on}
use Rattle.simulator_recovery.proofs.Lemmas.Points.QuietBase.{AsksNothing, IsResting, SeesOwn, resting_on}
use Rattle.simulator_recovery.proofs.Lemmas.RoutesComing.RoutesCome.{point_up}
use Rattle.simulator_recovery.proofs.Lemmas.RoutesComing.RoutesGround.{settled_inside}

-- ---- what each event keeps is kept through good rounds, and what comes between them

-- both are so throughout
both_behind : (one other : Played → Type 0) (events : List Event) (world : Played) → EachBehind one events world → EachBehind other events world → EachBehind (λ w. one w × other w) events world
both_behind one other [] world first second = tt
both_behind one other (event ∷ events) world first second = ((first.0, second.0), both_behind one other events (after world event) first.1 second.1)

pub both_throughout : (one other : Played → Type 0) (rounds : List (List Event)) (flowing : Flowing) → Throughout one rounds flowing → Throughout other rounds flowing
    → Throughout (λ w. one w × other w) rounds flowing
both_throughout one other [] flowing first second = tt
both_throughout one other (between ∷ rounds) flowing first second = (
  both_behind one other (events_of_round between flowing) flowing.state first.0 second.0,
  both_throughout one other rounds (all_tried between (round flowing)) first.1 second.1,
)

-- All events keep this that are such, where before them and after them this is so.
pub record EachKeeps (sited : SitedTable) (Such : Event → Type 0) (Up : WorldState → Type 0) (P : WorldState → Type 0) : Type 0 where
  pub on : (one : Event) (world : WorldState) → IsReached sited.site sited.table world → IsReached sited.site sited.table (happens sited.site sited.table one world) → refusal sited.site one world ≡ None
      → Such one → Up world → Up (happens sited.site sited.table one world) → P world → P (happens sited.site sited.table one world)

module _ (reach : LawsBelow) (sited : SitedTable) (Such : Event → Type 0) (such : HoldsOfRounds Such) (Up : WorldState → Type 0) (P : WorldState → Type 0) (keeps : EachKeeps sited Such Up P) where
  tried_on : (one : Event) (world : Played) → IsAt sited world → Such one → Up world.run → P world.run → Up (after world one).run → P (after world one).run
  tried_on one world at is up so then_up = (tried_keeps Q world one (at, λ also. so) (λ none. happened world.sited at.same none)).1 then_up
    where
      Q : Played → Type 0
      Q other = IsAt sited other × (Up other.run → P other.run)

      then_at : (s : SitedTable) → s ≡ sited → refusal s.site one world.run ≡ None → IsReached sited.site sited.table (happens s.site s.table one world.run)
      then_at s same none = subst (λ (t : SitedTable). refusal t.site one world.run ≡ None → IsReached sited.site sited.table (happens t.site t.table one world.run)) (sym same)
          (λ still. reach.reached_worlds_are_safe_on sited.site sited.table one world.run at.reached still) none

      happened : (s : SitedTable) → s ≡ sited → refusal s.site one world.run ≡ None → Q (record world { run = happens s.site s.table one world.run })
      happened s same none = (
        record { same = at.same; reached = then_at s same none },
        subst (λ (t : SitedTable). refusal t.site one world.run ≡ None → IsReached sited.site sited.table (happens t.site t.table one world.run) → Up (happens t.site t.table one world.run)
            → P (happens t.site t.table one world.run)) (sym same)
            (λ still then_reached up_then. keeps.on one world.run at.reached then_reached still is up up_then so) none (then_at s same none),
      )

  each_on : (events : List Event) (world : Played) → IsAt sited world → Each Such events → Up world.run → P world.run → EachBehind (λ w. Up w.run) events world
      → IsAt sited (after_each events world) × Up (after_each events world).run × P (after_each events world).run
  each_on [] world at are up so ups = (at, up, so)
  each_on (first ∷ others) world at are up so ups = each_on others (after world first) (tried_reached reach sited world first at) are.1 ups.0 (tried_on first world at are.0 up so ups.0) ups.1

  all_such : (between : List Event) (flowing : Flowing) → Each Such between → Each Such (events_of_round between flowing)
  all_such between flowing are = (
    such.times flowing.state.sited.site,
    each_both Such (map event_of (behind_time flowing)) between (events_are Such (behind_time flowing) (behind_time_are Such such.comes such.ticks such.reaches flowing)) are,
  )

  pub rounds_on : (rounds : List (List Event)) (flowing : Flowing) → IsAt sited flowing.state → Each (Each Such) rounds → Up flowing.state.run → P flowing.state.run
      → Throughout (λ w. Up w.run) rounds flowing → P (good_rounds rounds flowing).state.run
  rounds_on [] flowing at are up so ups = so
  rounds_on (between ∷ later_rounds) flowing at are up so ups = rounds_on later_rounds (all_tried between (round flowing)) next.0 are.1 next.1 next.2 ups.1
    where
      Next : Played → Type 0
      Next w = IsAt sited w × Up w.run × P w.run

      next : Next (all_tried between (round flowing)).state
      next = subst Next (sym (round_tried between flowing)) (each_on (events_of_round between flowing) flowing.state at (all_such between flowing are.0) up so ups.0)

-- ---- a point that rests goes on to, event by event, while no request comes and nothing is told of its own section

-- An event that brings no command, makes nothing anew, and tells nothing of the section.
abbrev pub LeavesAlone : Site → Table → ℕ → Event → Type 0
LeavesAlone site table section one = AsksNothing one × LeavesSection site table section one

module _ (laws : LawsBelow) (sited : SitedTable) (station : IsStation sited.site) (once : Once sited.site) (is_table : IsTableOf sited.site sited.table) (point : ℕ) (few : point < length sited.site.points)
    (section : ℕ) (own : slice_get sited.table.point_sections point ≡ Some section) (reporter : ℕ × ℕ) (reported : slice_get sited.table.reporters section ≡ Some reporter)
    (occupancy : Occupancy) (bound : ℕ) (first : List (List ℕ)) (far : bound ≤ length first)
    (was_told : WasTold laws sited.site sited.table station once is_table section reporter reported occupancy bound first far) where
  abbrev site : Site
  site = sited.site

  abbrev table : Table
  table = sited.table

  -- the links of the point and of the detector are up
  abbrev pub AreUp : WorldState → Type 0
  AreUp world = IsClientUp (point_link site point) world × IsClientUp (detector_link site reporter.0) world

  -- the section isn't clear
  abbrev pub Unclear : Type 0
  Unclear = occupancy ≡ Occupied

  abbrev pub Told : WorldState → Links → Type 0
  Told = IsTold laws site table station once is_table section reporter reported occupancy bound first far

  -- the links of the station, what was told there of the section, and the point
  pub record Rests (world : WorldState) : Type 0 where
    pub network : Links
    pub told : Told world network
    pub resting : IsResting table point Unclear world.interlocking.ixl

  pub whole_at : (world : WorldState) → IsReached site table world → IsWhole site world
  whole_at world reached = (subst (IsStanding site) (sym reached.after) (laws.stations_have_links_run site table reached.outset reached.events station once reached.lies reached.can)).whole

  pub inside_at : (world : WorldState) → IsReached site table world → IsClientUp (point_link site point) world → IsInside world.interlocking.ixl point
  inside_at world reached up =
      let known = point_up site world (whole_at world reached) point few up
      in (known.0, known.1, settled_inside (reading_of world.interlocking.clock) known.0.client ((clients_stand site table world reached).points point known.0 known.1).stands.outside known.2)

  -- what the interlocking sees of the section
  pub sees_own : (world : WorldState) (network : Links) → IsReached site table world → IsClientUp (detector_link site reporter.0) world → Told world network → SeesOwn table point Unclear world.interlocking.ixl
  sees_own world network reached up told = record { shut = shut; inside = inside }
    where
      held : (one : KnownDetectorState) → slice_get world.interlocking.ixl.detectors reporter.0 ≡ Some one → contains one.occupied reporter.1 ≡ is_occupied occupancy
      held = held_so laws site table station once is_table section reporter reported occupancy bound first far world network up told was_told

      shut : Unclear → At table.point_sections point (IsClear table world.interlocking.ixl) → ⊥
      shut occupied (other, other_own, clear) =
          let same : clear.0 ≡ reporter = same_Some clear.0 reporter (sym clear.1 ∙ (ap (slice_get table.reporters) (same_Some other section (sym other_own ∙ own)) ∙ reported))
          in false≢true (sym clear.2.2.1 ∙ (ap (λ (r : ℕ × ℕ). contains clear.2.0.occupied r.1) same
          ∙ (held clear.2.0 (ap (λ (r : ℕ × ℕ). slice_get world.interlocking.ixl.detectors r.0) (sym same) ∙ clear.2.1) ∙ ap is_occupied occupied)))

      inside : (other : ℕ) (r : ℕ × ℕ) → slice_get table.point_sections point ≡ Some other → slice_get table.reporters other ≡ Some r
          → At world.interlocking.ixl.detectors r.0 (λ known. is_outside known.client.stage ≡ false)
      inside other r other_own other_reported =
          let same : reporter ≡ r = same_Some reporter r (sym reported ∙ (ap (slice_get table.reporters) (same_Some section other (sym own ∙ other_own)) ∙ other_reported))
          in let known = detector_known
          in subst (λ (p : ℕ × ℕ). At world.interlocking.ixl.detectors p.0 (λ one. is_outside one.client.stage ≡ false)) same (
            known.0,
            known.1,
            settled_inside (reading_of world.interlocking.clock) known.0.client ((clients_stand site table world reached).detectors reporter.0 known.0 known.1).stands.outside
                (known_up laws site table station once is_table section reporter reported occupancy bound first far world network told.over up),
          )
        where
          detector_known : (k : KnownDetectorState) × (slice_get world.interlocking.ixl.detectors reporter.0 ≡ Some k)
          detector_known = known_there laws site table station once is_table section reporter reported occupancy bound first far world network told.over

  pub rests_on : EachKeeps sited (LeavesAlone site table section) AreUp Rests
  rests_on = record {
    on = λ one world reached then_reached none leaves up then_up r.
        let told = told_on laws site table station once is_table section reporter reported occupancy bound first far one world r.network none leaves.1 up.1 r.told
        in record {
          network = run_links (events_of site table one world) r.network;
          told = told;
          resting = resting_on laws.move_is_given_where_due laws.request_is_accepted_where_admissible site table is_table point Unclear one world reached leaves.0 r.resting (point_up site world (whole_at world reached) point few up.0)
              (sees_own (happens site table one world) (run_links (events_of site table one world) r.network) then_reached then_up.1 told)
              (inside_at (happens site table one world) then_reached then_up.0);
        };
  }
