-- In every event of a station but time no time passes at its links, and a node that is made anew has its clocks set.
use Rattle.std.proofs.Common.{◌≡◌, ◌⊎◌, inl, inr, ℕ, zero, suc, ◌+◌, ◌-◌, ◌<◌, ◌≤◌, Bool, true, false, List, [], ◌∷◌, map, length, Option, Some, None, slice_get, if◌then◌else◌, refl, sym, ap, subst, ◌∙◌, arith}
use Rattle.std.specs.Prelude.{◌==◌, nat_lt}
use Rattle.std.proofs.lemmas.Bool.Decides.{nat_tests}
use Rattle.simulator_spec.specs.layout.Entries.{Site}
use Rattle.simulator_spec.specs.object_host.Behaviour.{Behaviour}
use Rattle.simulator_spec.specs.object_host.declared.input.Input.{Input}
use Rattle.simulator_spec.specs.rasta_core.Ends.{Call}
use Rattle.simulator_spec.specs.rasta_core.Links.{AreAtOnce, CallsOn, LinksEvent, all_offsets_on}
use Rattle.simulator_spec.specs.rasta_core.Nodes.{NodeCall, calls_of, is_among, restarts_of}
use Rattle.simulator_spec.specs.rasta_core.TrueClocks.{Offset, set}
use Rattle.simulator_spec.specs.rasta_core.identity.Role.{Role}
use Rattle.simulator_spec.specs.rasta_core.identity.Role.TheVariants as role
use Rattle.simulator_spec.specs.ixl_spec.Table.{Table}
use Rattle.simulator_spec.specs.simulator_event.declared.event.Event.{Event}
use Rattle.simulator_spec.specs.simulator_event.declared.event.Event.TheVariants as event
use Rattle.simulator_spec.specs.Nodes.{Node, Interlocking, Signal, Point, Detector, controller_at, detector_link, links, node_at, point_link}
use Rattle.simulator_spec.specs.State.{ClockedControllerState, WorldState}
use Rattle.simulator_link_laws.proofs.Lists.{some_within}
use Rattle.simulator_link_laws.specs.Events.{anew_events, contact_events, delivery_events, events_of, host_events, numbers_below, restart_events, tick_events}
use Rattle.simulator_link_laws.specs.TrueLinks.{node_on}

-- ---- no time passes

calls_at_once : (link : ℕ) (who : Role) (calls : List Call) → AreAtOnce (map (λ call. CallsOn link who call) calls)
calls_at_once link who [] = tt
calls_at_once link who (first ∷ others) = (tt, calls_at_once link who others)

node_at_once : (who : Role) (calls : List NodeCall) → AreAtOnce (calls_of who calls)
node_at_once who [] = tt
node_at_once who (first ∷ others) = (tt, node_at_once who others)

restarts_at_once : (who : Role) (clock : ℕ) (firsts : ℕ → ℕ) (numbers : List ℕ) → AreAtOnce (restarts_of who clock firsts numbers)
restarts_at_once who clock firsts [] = tt
restarts_at_once who clock firsts (first ∷ others) = (tt, restarts_at_once who clock firsts others)

host_at_once : {Object : Type 0} (does : Behaviour Object) (input : Input) (connection link : ℕ) (server : Option (ClockedControllerState Object)) → AreAtOnce (host_events does input connection link server)
host_at_once does input connection link None = tt
host_at_once does input connection link (Some server) = calls_at_once link role.Server _

anew_at_once : {Entry : Type 0} (clock first link : ℕ) (entry : Option Entry) → AreAtOnce (anew_events clock first link entry)
anew_at_once clock first link None = tt
anew_at_once clock first link (Some entry) = (tt, tt)

-- an event of a station in which no time passes
abbrev pub IsAtOnceAt : Event → Type 0
IsAtOnceAt (event.Time elapsed clocks) = ⊥
IsAtOnceAt (event.Request command) = Unit {0}
IsAtOnceAt (event.Occupy section occupancy) = Unit {0}
IsAtOnceAt (event.Tick node) = Unit {0}
IsAtOnceAt (event.Deliver node bytes) = Unit {0}
IsAtOnceAt (event.Lose bytes) = Unit {0}
IsAtOnceAt (event.Reach point position) = Unit {0}
IsAtOnceAt (event.Restart node clock first) = Unit {0}

module _ (site : Site) (table : Table) (world : WorldState) where
  tick_at_once : (at : Option Node) → AreAtOnce (tick_events site table at world)
  tick_at_once None = tt
  tick_at_once (Some Interlocking) = node_at_once role.Client _
  tick_at_once (Some (Signal place)) = host_at_once _ _ _ _ (slice_get world.signals place)
  tick_at_once (Some (Point place)) = host_at_once _ _ _ _ (slice_get world.points place)
  tick_at_once (Some (Detector place)) = host_at_once _ _ _ _ (slice_get world.detectors place)

  delivery_at_once : (bytes : List ℕ) (connection : ℕ) (at : Option Node) → AreAtOnce (delivery_events site table bytes connection at world)
  delivery_at_once bytes connection None = tt
  delivery_at_once bytes connection (Some Interlocking) = node_at_once role.Client _
  delivery_at_once bytes connection (Some (Signal place)) = host_at_once _ _ _ _ (slice_get world.signals place)
  delivery_at_once bytes connection (Some (Point place)) = host_at_once _ _ _ _ (slice_get world.points place)
  delivery_at_once bytes connection (Some (Detector place)) = host_at_once _ _ _ _ (slice_get world.detectors place)

  contact_at_once : (reporter : Option (ℕ × ℕ)) (input : ℕ → Input) → AreAtOnce (contact_events site reporter input world.detectors)
  contact_at_once None input = tt
  contact_at_once (Some reporter) input = host_at_once _ _ _ _ (slice_get world.detectors reporter.0)

  restart_at_once : (clock first : ℕ) (at : Option Node) → AreAtOnce (restart_events site clock first at)
  restart_at_once clock first None = tt
  restart_at_once clock first (Some Interlocking) = restarts_at_once role.Client clock (λ link. first) (numbers_below (links site))
  restart_at_once clock first (Some (Signal place)) = anew_at_once clock first place (slice_get site.signals place)
  restart_at_once clock first (Some (Point place)) = anew_at_once clock first (point_link site place) (slice_get site.points place)
  restart_at_once clock first (Some (Detector place)) = anew_at_once clock first (detector_link site place) (slice_get site.detectors place)

  pub events_at_once : (happening : Event) → IsAtOnceAt happening → AreAtOnce (events_of site table happening world)
  unfolding events_of
  events_at_once (event.Time elapsed clocks) once = absurd once
  events_at_once (event.Request command) once = node_at_once role.Client _
  events_at_once (event.Occupy section occupancy) once = contact_at_once (slice_get table.reporters section.0) _
  events_at_once (event.Tick node) once = tick_at_once (node_at site node.0)
  events_at_once (event.Deliver node bytes) once = delivery_at_once bytes _ (node_at site node.0)
  events_at_once (event.Lose bytes) once = (tt, tt)
  events_at_once (event.Reach point position) once = host_at_once _ _ _ _ (slice_get world.points point.0)
  events_at_once (event.Restart node clock first) once = restart_at_once clock first (node_at site node.0)

-- ---- a node is made anew

abbrev pub RestartsSet : Type 0
RestartsSet = (who : Role) (clock : ℕ) (firsts : ℕ → ℕ) (numbers : List ℕ) (offsets : ℕ → Role → Offset) (link : ℕ) → is_among link numbers ≡ true
    → all_offsets_on (restarts_of who clock firsts numbers) offsets link who ≡ set

equal_itself : (n : ℕ) → (n == n) ≡ true
equal_itself n = grind (arith, nat_tests)

among_below : (link count : ℕ) → link < count → is_among link (numbers_below count) ≡ true
among_below link zero below = absurd (omega (arith, below))
among_below link (suc count) below = choose (link == count) refl (λ e. among_below link count (less e)) where
  choose : (here : Bool) → (link == count) ≡ here → ((link == count) ≡ false → is_among link (numbers_below count) ≡ true) → (if here then true else is_among link (numbers_below count)) ≡ true
  choose true e more = refl
  choose false e more = more e

  less : (link == count) ≡ false → link < count
  less e = grind (arith, nat_tests, below, e)

module _ (law : RestartsSet) (site : Site) (clock first : ℕ) (offsets : ℕ → Role → Offset) (link : ℕ) (below : link < links site) where
  -- the controller of a link, whichever of its kind it is
  one_anew : {Entry : Type 0} (other : ℕ) (list : List Entry) (place : ℕ) → place < length list → other ≡ link → all_offsets_on (anew_events clock first other (slice_get list place)) offsets link role.Server ≡ set
  one_anew other list place there same =
      let found = some_within list place there
      in subst (λ e. all_offsets_on (anew_events clock first other e) offsets link role.Server ≡ set) (sym found.1)
      (subst (λ n. all_offsets_on (anew_events clock first n (Some found.0)) offsets link role.Server ≡ set) (sym same)
      (law role.Server clock (λ n. first) (link ∷ []) offsets link (ap (λ (b : Bool). if b then true else false) (equal_itself link))))

  controller_set : all_offsets_on (restart_events site clock first (controller_at site link)) offsets link role.Server ≡ set
  controller_set = at_signal (nat_lt link (length site.signals)) refl
    where
      at_detector : (is : Bool) → nat_lt link (links site) ≡ is → nat_lt link (length site.signals) ≡ false → nat_lt link (point_link site (length site.points)) ≡ false
          → all_offsets_on (restart_events site clock first (if is then Some (Detector (link - detector_link site 0)) else None)) offsets link role.Server ≡ set
      at_detector true e f g = one_anew (detector_link site (link - detector_link site 0)) site.detectors (link - detector_link site 0) (grind (arith, nat_tests, e, f, g)) (grind (arith, nat_tests, e, f, g))
      at_detector false e f g = absurd (grind (arith, nat_tests, e, below))

      at_point : (is : Bool) → nat_lt link (point_link site (length site.points)) ≡ is → nat_lt link (length site.signals) ≡ false
          → all_offsets_on (restart_events site clock first (if is then Some (Point (link - length site.signals)) else if nat_lt link (links site) then Some (Detector (link - detector_link site 0)) else None)) offsets link role.Server ≡ set
      at_point true e f = one_anew (point_link site (link - length site.signals)) site.points (link - length site.signals) (grind (arith, nat_tests, e, f)) (grind (arith, nat_tests, e, f))
      at_point false e f = at_detector (nat_lt link (links site)) refl f e

      at_signal : (is : Bool) → nat_lt link (length site.signals) ≡ is
          → all_offsets_on (restart_events site clock first (if is then Some (Signal link) else if nat_lt link (point_link site (length site.points)) then Some (Point (link - length site.signals))
          else if nat_lt link (links site) then Some (Detector (link - detector_link site 0)) else None)) offsets link role.Server ≡ set
      at_signal true e = one_anew link site.signals link (grind (arith, nat_tests, e)) refl
      at_signal false e = at_point (nat_lt link (point_link site (length site.points))) refl e

  pub restart_sets : (node : ℕ) (who : Role) → node ≡ node_on link who → all_offsets_on (restart_events site clock first (node_at site node)) offsets link who ≡ set
  restart_sets node role.Client same = subst (λ n. all_offsets_on (restart_events site clock first (node_at site n)) offsets link role.Client ≡ set) (sym same)
      (law role.Client clock (λ n. first) (numbers_below (links site)) offsets link (among_below link (links site) below))
  restart_sets node role.Server same = subst (λ n. all_offsets_on (restart_events site clock first (node_at site n)) offsets link role.Server ≡ set) (sym same) controller_set
