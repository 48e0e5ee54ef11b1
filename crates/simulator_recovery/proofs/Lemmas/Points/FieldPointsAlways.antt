-- A point that took no move in its connection has reported where it stands: after every list of events of a station.
use Rattle.simulator_recovery.proofs.Words.Basics.{◌≡◌, ◌⊎◌, inl, inr, ℕ, zero, suc, ◌<◌, ◌≤◌, Bool, true, false, not, nat_le, List, [], ◌∷◌, ◌+◌, length, map, Option, Some, None, slice_get, refl, sym, ap, subst, ◌∙◌, arith, slice_index_or, zip, false≢true, none-some, same_Some, slice_get_within}
use Rattle.simulator_recovery.proofs.Words.Links.{settled, EndState, end_later, reading_of, Links, begun, run_links, seen, Ends, LinkState, is_open, Role}
use Rattle.simulator_recovery.proofs.Words.Controllers.{position_told, called_all, Position, Side, HostState, is_completed, commands_of, Input as HostInput, point_behaviour, PointState, driven, drives, Progress}
use Rattle.simulator_recovery.proofs.Words.Interlockings.{IsTableOf, changed, Table}
use Rattle.simulator_recovery.proofs.Words.Stations.{DetectorEntry, Site, Point as PointEntry, Signal as SignalEntry, PointId, Once, IsStation, Event, controller_after, controller_anew, step_of, Beginning, IsOutsetOf, Outset, at_zero, new_point, point_standing, world_at, detector_anew, happens, made_anew, passed, point_anew, signal_anew, ServerEnd, end_of_server, names_at, starts_at_zero, detector_link, links, node_at, partners, point_link, driven_at, may_reach, refusal, refused_where, Refused, ClockedControllerState, WorldState, anew_events, events_of, numbers_below, restart_events, time_events, IsNamed, IsReached}
use Rattle.simulator_recovery.proofs.Words.Recovery.{last_side, LawsBelow}
use Rattle.simulator_spec.specs.Nodes as nodes
use Rattle.simulator_recovery.proofs.Lemmas.Ground.ClientItem.{partners_length}
use Rattle.simulator_recovery.proofs.Lemmas.Ground.SectionsEvents.{CanBe, HasHeld, always_held}
use Rattle.simulator_recovery.proofs.Lemmas.Ground.AtLink.{mapped, of_second}
use Rattle.simulator_recovery.proofs.Lemmas.Rounds.Clocks.{IsCalm}
use Rattle.simulator_recovery.proofs.Lemmas.Ground.ControllersOnLinks.{Lists, all_anew_keeps, anew_keeps, lists_at, lists_of}
use Rattle.simulator_recovery.proofs.Lemmas.Points.FieldPointsStep.{AllTell, Stand, stand_on, Owes, Stays, owes_first, owes_on}
use Rattle.simulator_recovery.proofs.Lemmas.Ground.IxlClients.{changed_at, mapped_at}
use Rattle.simulator_recovery.proofs.Lemmas.Ground.LinkCounts.{settled_open}
use Rattle.simulator_recovery.proofs.Lemmas.Ground.EndCalls.{at_place, map_length}
use Rattle.simulator_recovery.proofs.Lemmas.Points.MovesEvent.{IsInputOf, PointEvent, point_event, stays, steps}
use Rattle.simulator_recovery.proofs.Lemmas.Talk.PointCounts.{waits, within_ever}
use Rattle.simulator_recovery.proofs.Lemmas.Ground.StationKeeps.{later_at}
use Rattle.simulator_recovery.proofs.Lemmas.Talk.AlwaysSaid.{new_closed}

-- ---- a point that took no move isn't driven

none_long : {A : Type 0} (list : List A) → length list ≤ 0 → list ≡ []
none_long [] few = refl
none_long (one ∷ later) few = absurd (omega (arith, few))

-- a drive that isn't under way drives nowhere
undriven : (now until : ℕ) (how : Progress) → ((side : Side) (since : ℕ) → how ≡ Progress.Driving side since → ⊥) → driven now until how ≡ None
undriven now until Progress.Answered none = refl
undriven now until (Progress.Driving side since) none = absurd (none side since refl)
undriven now until Progress.Arrived none = refl
undriven now until Progress.TimedOut none = refl

module _ (site : Site) (entry : PointEntry) (host : HostState PointState) (lists : Lists) (it : Stays site entry host lists) (opened : is_open host.link.phase ≡ true)
    (few : length lists.taken ≤ 2) where
  no_command : commands_of lists.taken ≡ []
  no_command = by_stage (is_completed host.stage) refl
    where
      by_stage : (b : Bool) → is_completed host.stage ≡ b → commands_of lists.taken ≡ []
      by_stage false e = it.owed.early opened e
      by_stage true e =
          let least = it.owed.owes opened e
          in let most : length lists.given + waits host.object ≤ 2 + length lists.taken = within_ever host.stage (length lists.given) (length lists.taken) (waits host.object)
          (it.counted.inside opened)
          in none_long (commands_of lists.taken) (omega (arith, least, most, few))

  still : (now : ℕ) → drives now host.object ≡ None
  still now = undriven now host.object.until host.object.progress
      (λ side since e. none-some side (sym (ap (last_side None) no_command) ∙ it.owed.aims opened side since e))

-- ---- a contact tells of another position only of a point that is driven

pub driven_there : (points : List (ClockedControllerState PointState)) (place : ℕ) (c : ClockedControllerState PointState) → slice_get points place ≡ Some c
    → driven_at place points ≡ drives (reading_of c.clock) c.host.object
driven_there [] place c e = absurd (none-some c e)
driven_there (first ∷ others) zero c e = ap (λ (x : ClockedControllerState PointState). drives (reading_of x.clock) x.host.object) (same_Some first c e)
driven_there (first ∷ others) (suc place) c e = driven_there others place c e

pub reach_refused : (site : Site) (point : PointId) (position : Position) (world : WorldState) → driven_at point.0 world.points ≡ None → refusal site (Event.Reach point position) world ≡ None → ⊥
unfolding refusal
reach_refused site point position world none may = choose (nat_le (length site.points) point.0) (may_reach (driven_at point.0 world.points) position)
    (ap (λ (side : Option Side). may_reach side position) none) may
  where
    choose : (a b : Bool) → b ≡ false → refused_where a Refused.NoSuchNode (refused_where (not b) Refused.NotDriven None) ≡ None → ⊥
    choose true b e f = absurd (cc f)
    choose false true e f = absurd (cc e)
    choose false false e f = absurd (cc f)

-- what an event brings a point's controller leaves where the point was sensed, where the point isn't driven
calm_input : (site : Site) (place : ℕ) (one : Event) (input : HostInput) (world : WorldState) (stood : Position) → IsInputOf place one input → refusal site one world ≡ None
    → driven_at place world.points ≡ None → position_told input stood ≡ stood
calm_input site place (Event.Tick node) input world stood is may none = subst (λ (i : HostInput). position_told i stood ≡ stood) (sym is) refl
calm_input site place (Event.Deliver node bytes) input world stood is may none = subst (λ (i : HostInput). position_told i stood ≡ stood) (sym is) refl
calm_input site place (Event.Reach point position) input world stood is may none = absurd (reach_refused site point position world (ap (λ (n : ℕ). driven_at n world.points) is.0 ∙ none) may)
calm_input site place (Event.Request command) input world stood is may none = absurd is
calm_input site place (Event.Occupy section occupancy) input world stood is may none = absurd is
calm_input site place (Event.Time elapsed clocks) input world stood is may none = absurd is
calm_input site place (Event.Lose bytes) input world stood is may none = absurd is
calm_input site place (Event.Restart node clock first) input world stood is may none = absurd is

-- ---- an event of a station

module _ (expected : LawsBelow) (owed : LawsBelow) (site : Site) (table : Table) where
  abbrev pub Standing : WorldState → Links → Type 0
  Standing world network = (place : ℕ) (c : ClockedControllerState PointState) (entry : PointEntry) → slice_get world.points place ≡ Some c → slice_get site.points place ≡ Some entry
      → Stand c.host (lists_at network (point_link site place))

  same_on : (old new : WorldState) (before after : Links) → new.points ≡ old.points → ((link : ℕ) → lists_at after link ≡ lists_at before link) → Standing old before → Standing new after
  same_on old new before after points lists is place c entry e f = subst (Stand c.host) (sym (lists (point_link site place)))
      (is place c entry (ap (λ (all : List (ClockedControllerState PointState)). slice_get all place) (sym points) ∙ e) f)

  new_stands : (begins : Beginning) (position : Position) (entry : PointEntry) (lists : Lists) → Stand (new_point site begins position entry) lists
  new_stands begins position entry lists opened few = absurd (false≢true (sym (new_closed point_behaviour _ _ _ _ _ _ _) ∙ opened))

  one_anew : (begins : Beginning) (position : Position) (at : ℕ) (other : PointEntry) (world : WorldState) (network : Links) → Standing world network → (place : ℕ)
      (c : ClockedControllerState PointState) (entry : PointEntry)
      → slice_get (changed (controller_anew (new_point site begins position other) begins.clock (length world.sent)) at world.points) place ≡ Some c → slice_get site.points place ≡ Some entry
      → Stand c.host (lists_at network (point_link site place))
  unfolding controller_anew
  one_anew begins position at other world network is place c entry e f = choose (changed_at (controller_anew (new_point site begins position other) begins.clock
      (length world.sent)) at world.points place c e)
    where
      choose : ((place ≡ at) × (x : ClockedControllerState PointState) × (slice_get world.points at ≡ Some x)
          × (c ≡ controller_anew (new_point site begins position other) begins.clock (length world.sent) x)) ⊎ (slice_get world.points place ≡ Some c)
          → Stand c.host (lists_at network (point_link site place))
      choose (inl (same, x, there, is_new)) = subst (λ (one : ClockedControllerState PointState). Stand one.host (lists_at network (point_link site place))) (sym is_new)
          (new_stands begins position other (lists_at network (point_link site place)))
      choose (inr there) = is place c entry there f

  points_anew : (begins : Beginning) (at : ℕ) (found : Option PointEntry) (world : WorldState) (network : Links) → Standing world network
      → Standing (point_anew site begins at found world) (run_links (anew_events begins.clock begins.first (point_link site at) found) network)
  points_anew begins at None world network is = is
  points_anew begins at (Some other) world network is = λ place c entry e f.
      subst (Stand c.host) (sym (anew_keeps (point_link site at) Role.Server begins.clock begins.first network (point_link site place)))
      (one_anew begins (slice_index_or world.positions at Position.NoEndPosition) at other world network is place c entry e f)

  signals_anew : (begins : Beginning) (at : ℕ) (found : Option SignalEntry) (world : WorldState) (network : Links) → Standing world network
      → Standing (signal_anew site begins at found world) (run_links (anew_events begins.clock begins.first at found) network)
  signals_anew begins at None world network is = is
  signals_anew begins at (Some other) world network is = same_on world (signal_anew site begins at (Some other) world) network (run_links (anew_events begins.clock begins.first at
      (Some other)) network) refl (anew_keeps at Role.Server begins.clock begins.first network) is

  detectors_anew : (begins : Beginning) (at : ℕ) (found : Option DetectorEntry) (world : WorldState) (network : Links) → Standing world network
      → Standing (detector_anew site begins at found world) (run_links (anew_events begins.clock begins.first (detector_link site at) found) network)
  detectors_anew begins at None world network is = is
  detectors_anew begins at (Some other) world network is = same_on world (detector_anew site begins at (Some other) world) network (run_links (anew_events begins.clock begins.first
      (detector_link site at) (Some other)) network) refl (anew_keeps (detector_link site at) Role.Server begins.clock begins.first network) is

  restarts : (begins : Beginning) (node : Option nodes.Node) (world : WorldState) (network : Links) → Standing world network
      → Standing (made_anew site table begins node world) (run_links (restart_events site begins.clock begins.first node) network)
  restarts begins None world network is = is
  restarts begins (Some nodes.Interlocking) world network is =
      same_on world (made_anew site table begins (Some nodes.Interlocking) world) network (run_links (restart_events site begins.clock begins.first (Some nodes.Interlocking)) network) refl
      (all_anew_keeps Role.Client begins.clock (λ link. begins.first) (numbers_below (links site)) network) is
  restarts begins (Some (nodes.Signal at)) world network is = signals_anew begins at (slice_get site.signals at) world network is
  restarts begins (Some (nodes.Point at)) world network is = points_anew begins at (slice_get site.points at) world network is
  restarts begins (Some (nodes.Detector at)) world network is = detectors_anew begins at (slice_get site.detectors at) world network is

  time_on : (elapsed : ℕ) (clocks : List ℕ) (world : WorldState) (network : Links) → Standing world network → Standing (passed elapsed clocks world) (run_links (time_events elapsed clocks) network)
  unfolding passed end_later
  time_on elapsed clocks world network is place c entry e f = let found = later_at (length world.sent) _ world.points place c e in
      subst (λ (h : HostState PointState). Stand h (lists_at network (point_link site place))) (sym found.2) (is place found.0 entry found.1 f)

  module _ (station : IsStation site) (once : Once site) (is_table : IsTableOf site table) where
    -- a station whose points owe what they owe, and have reported where they stand
    pub record Tells (world : WorldState) (network : Links) : Type 0 where
      pub owes : Owes expected owed site table station once is_table world network
      pub standing : Standing world network

    module _ (happening : Event) (world : WorldState) (network : Links) (can : CanBe site table happening world network) (before : Tells world network) where
      abbrev behind : WorldState
      behind = happens site table happening world

      abbrev next : Links
      next = run_links (events_of site table happening world) network

      owes_then : Owes expected owed site table station once is_table behind next
      owes_then = owes_on expected owed site table station once is_table happening world network can before.owes

      calm_on : IsCalm happening → Standing behind next
      unfolding controller_after
      calm_on calm place new entry e f opened few = by_event (point_event expected site table place world network can.whole.signals can.whole.points c.0 c.1 happening calm new e)
        where
          c : (c : ClockedControllerState PointState) × (slice_get world.points place ≡ Some c)
          c = let inside = slice_get_within site.points place entry f in let many = can.whole.points in at_place world.points place (omega (arith, inside, many))

          link : ℕ
          link = point_link site place

          was : Stays site entry c.0.host (lists_at network link)
          was = before.owes.owing.of_points place c.0 c.1 entry f

          will : Stays site entry new.host (lists_at next link)
          will = owes_then.owing.of_points place new e entry f

          server : EndState
          server = (network.ends link).server

          end_is : (server.link ≡ settled (reading_of c.0.clock) c.0.host.link) × (server.clock ≡ c.0.clock)
          end_is =
              let inside = slice_get_within site.points place entry f
              in let id = at_place (partners site) link (subst (λ (n : ℕ). link < n) (sym (partners_length site)) (omega (arith, inside)))
              in let s = can.are.servers link id.0 id.1
              in let there = of_second (map end_of_server world.signals) (map end_of_server world.points) _ (length site.signals) place (end_of_server c.0) (map_length end_of_server world.signals
              ∙ can.whole.signals) (mapped end_of_server world.points place c.0 c.1)
              in let kept_is : s.kept ≡ end_of_server c.0 = same_Some s.kept (end_of_server c.0) (sym s.there ∙ there)
              in (s.link_is ∙ ap (λ (k : ServerEnd). settled (reading_of k.clock) k.link) kept_is, s.clock_is ∙ ap (λ (k : ServerEnd). k.clock) kept_is)

          by_event : PointEvent link place happening c.0 new network next → AllTell new.host.object.sensed (lists_at next link).given
          by_event (stays same lists) = subst (λ (x : ClockedControllerState PointState). AllTell x.host.object.sensed (lists_at next link).given) (sym same)
              (subst (λ (l : Lists). AllTell c.0.host.object.sensed l.given) (sym lists)
              (before.standing place c.0 entry c.1 f (subst (λ (x : ClockedControllerState PointState). is_open x.host.link.phase ≡ true) same opened)
              (subst (λ (l : Lists). length l.taken ≤ 2) lists few)))
          by_event (steps input connection moment comes is_new is_seen) = subst (λ (h : HostState PointState). AllTell h.object.sensed (lists_at next link).given) (sym host_is)
              (subst (λ (s : Ends). AllTell (step_of point_behaviour input c.0).host.object.sensed (lists_of s.server).given) (sym is_seen)
              (stand_on expected.written_telegram_is_read owed expected.points site entry input connection c.0 (seen link network) end_is.0 end_is.1 named named.version was stays_then calm_then
              (before.standing place c.0 entry c.1 f)
              (subst (λ (h : HostState PointState). is_open h.link.phase ≡ true) host_is opened)
              (subst (λ (s : Ends). length (lists_of s.server).taken ≤ 2) is_seen few)))
            where
              named : IsNamed c.0.host
              named = can.whole.points_named place c.0 c.1

              host_is : new.host ≡ (step_of point_behaviour input c.0).host
              host_is = ap (λ (x : ClockedControllerState PointState). x.host) is_new

              stays_then : Stays site entry (step_of point_behaviour input c.0).host (lists_of (called_all connection (step_of point_behaviour input c.0).calls (seen link network)).server)
              stays_then = subst (λ (s : Ends). Stays site entry (step_of point_behaviour input c.0).host (lists_of s.server)) is_seen
                  (subst (λ (h : HostState PointState). Stays site entry h (lists_at next link)) host_is will)

              calm_then : is_open server.link.phase ≡ true → length server.taken ≤ 2 → position_told input c.0.host.object.sensed ≡ c.0.host.object.sensed
              calm_then g fewer =
                  let was_open = (settled_open (reading_of c.0.clock) c.0.host.link (ap (λ (l : LinkState). is_open l.phase) (sym end_is.0) ∙ g)).1
                  in calm_input site place happening input world c.0.host.object.sensed comes can.may (driven_there world.points place c.0 c.1
                  ∙ still site entry c.0.host (lists_at network link) was was_open fewer (reading_of c.0.clock))

    standing_on : (happening : Event) (world : WorldState) (network : Links) → CanBe site table happening world network → Tells world network → Standing (happens site table happening world)
        (run_links (events_of site table happening world) network)
    unfolding happens events_of
    standing_on (Event.Request command) world network can before = calm_on (Event.Request command) world network can before tt
    standing_on (Event.Occupy section occupancy) world network can before = calm_on (Event.Occupy section occupancy) world network can before tt
    standing_on (Event.Tick node) world network can before = calm_on (Event.Tick node) world network can before tt
    standing_on (Event.Deliver node bytes) world network can before = calm_on (Event.Deliver node bytes) world network can before tt
    standing_on (Event.Reach point position) world network can before = calm_on (Event.Reach point position) world network can before tt
    standing_on (Event.Time elapsed clocks) world network can before = time_on elapsed clocks world network before.standing
    standing_on (Event.Lose bytes) world network can before = same_on world (happens site table (Event.Lose bytes) world) network (run_links (events_of site table
        (Event.Lose bytes) world) network) refl (λ link. refl) before.standing
    standing_on (Event.Restart node clock first) world network can before = restarts (record { clock = clock; first = first }) (node_at site node.0) world network before.standing

    pub tells_on : (happening : Event) (world : WorldState) (network : Links) → CanBe site table happening world network → Tells world network → Tells (happens site table happening world)
        (run_links (events_of site table happening world) network)
    tells_on happening world network can before = record { owes = owes_then happening world network can before; standing = standing_on happening world network can before }

    standing_first : (outset : Outset) → Standing (world_at site table outset) (begun (names_at site) starts_at_zero)
    unfolding world_at
    standing_first outset place c entry e f = let made = mapped_at (point_standing site) (zip site.points outset.positions) place c e in
        subst (λ (x : ClockedControllerState PointState). Stand x.host (lists_at (begun (names_at site) starts_at_zero) (point_link site place))) (sym made.2)
        (new_stands at_zero made.0.1 made.0.0 (lists_at (begun (names_at site) starts_at_zero) (point_link site place)))

    pub tells_first : (outset : Outset) → IsOutsetOf site outset → Tells (world_at site table outset) (begun (names_at site) starts_at_zero)
    tells_first outset lies = record { owes = owes_first expected owed site table station once is_table outset lies; standing = standing_first outset }

    -- the links that a station has had, and what its points have reported there
    abbrev pub AlwaysTells : WorldState → Type 0
    AlwaysTells = HasHeld expected site table station once Tells tells_first tells_on

    pub always_tells : (world : WorldState) → IsReached site table world → AlwaysTells world
    always_tells = always_held expected site table station once Tells tells_first tells_on
