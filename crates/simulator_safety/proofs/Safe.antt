-- A station that the machine sees is safe where the machine keeps its promise.
use Rattle.std.proofs.Common.{◌≡◌, ◌∙◌, Bool, true, false, ℕ, ◌<◌, List, length, Option, Some, None, refl, sym, ap, subst}
use Rattle.std.specs.Prelude.{◌≢◌, ◌↔◌, slice_get}
use Rattle.std.specs.List.{Contains}
use Rattle.std.proofs.lemmas.Bool.{true≢false}
use Rattle.simulator_link_laws.specs.sci_telegram.declared.message.Aspect.{Aspect}
use Rattle.simulator_link_laws.specs.sci_telegram.declared.message.Aspect.TheVariants as aspects
use Rattle.simulator_link_laws.specs.sci_telegram.declared.message.Position.{Position}
use Rattle.simulator_link_laws.specs.sci_telegram.declared.message.Position.TheVariants as positions
use Rattle.simulator_link_laws.specs.sci_telegram.declared.message.Side.{Side}
use Rattle.simulator_link_laws.specs.sci_telegram.declared.message.Side.TheVariants as sides
use Rattle.simulator_link_laws.specs.layout.declared.ids.PointId.{PointId}
use Rattle.simulator_link_laws.specs.layout.declared.ids.RouteId.{RouteId}
use Rattle.simulator_link_laws.specs.layout.declared.ids.SectionId.{SectionId}
use Rattle.simulator_link_laws.specs.layout.declared.ids.SignalId.{SignalId}
use Rattle.simulator_link_laws.specs.layout.Entries.{Site}
use Rattle.simulator_link_laws.specs.layout.Station.{HasPoint}
use Rattle.simulator_link_laws.specs.control_table.Table.{AreSections, Conflict, LeadsOver, RouteRequires}
use Rattle.simulator_link_laws.specs.ixl_spec.Table.{Table}
use Rattle.ixl_table.specs.Table.{IsTableOf}
use Rattle.simulator_link_laws.specs.point_ctl.Drive.{PointState}
use Rattle.simulator_link_laws.specs.signal_ctl.Signal.{SignalState}
use Rattle.simulator_link_laws.specs.simulator_move_laws.Items.{aspect_seen, position_seen}
use Rattle.simulator_machine.specs.Lists.{is_same}
use Rattle.simulator_machine.specs.Machine.{Machine}
use Rattle.simulator_machine.specs.Promise as promised
use Rattle.simulator_machine.specs.Point as seen_point
use Rattle.simulator_machine.specs.Signal.{shown}
use Rattle.simulator_link_laws.specs.simulator_move_laws.Rows.{machine_table}
use Rattle.simulator_link_laws.specs.simulator_move_laws.Telegrams.{side_seen}
use Rattle.simulator_link_laws.specs.simulator_spec.Refusals.{driven_by}
use Rattle.simulator_link_laws.specs.simulator_spec.Seen.{IsSnapshotOf, as_shown, as_stands, shown_by}
use Rattle.simulator_link_laws.specs.simulator_spec.State.{ClockedControllerState, WorldState}
use Rattle.simulator_link_laws.specs.simulator_event.Safe.{IsHeldFor, IsProtected, IsThere, Safe, Shows, ShowsOther, StandsUndriven, position_at}
use Rattle.simulator_link_laws.specs.simulator_event.declared.snapshot.Held.{Held}
use Rattle.simulator_link_laws.specs.simulator_event.declared.snapshot.Snapshot.{Snapshot}
use Rattle.simulator_safety.specs.Seen.{IsSeen}
use Rattle.simulator_safety.proofs.WorldLists.{get_below, get_map, map_get, map_length, some_injective}
use Rattle.simulator_safety.proofs.Rows.{aspect_is_seen, aspects_are_told, conflict_is_seen, requirement_is_seen}

abbrev is_left : seen_point.Side → Bool
is_left seen_point.Left = true
is_left seen_point.Right = false

left_is_not_right : seen_point.Left ≡ seen_point.Right → ⊥
left_is_not_right e = true≢false (ap is_left e)

-- an end position that is seen at a side is that side's
pub position_is_told : (position : Position) (side : Side) → position_seen position ≡ Some (side_seen side) → position ≡ position_at side
position_is_told positions.Right sides.Right same = refl
position_is_told positions.Right sides.Left same = absurd (left_is_not_right (sym (some_injective seen_point.Right seen_point.Left same)))
position_is_told positions.Left sides.Right same = absurd (left_is_not_right (some_injective seen_point.Left seen_point.Right same))
position_is_told positions.Left sides.Left same = refl
position_is_told positions.NoEndPosition side same = absurd (true≢false (sym (ap (λ (o : Option seen_point.Side). elim o [ None ↦ false | Some x ↦ true ]) same)))

module _ (site : Site) (table : Table) (world : WorldState) (machine : Machine) (snapshot : Snapshot) (is : IsTableOf site table)
    (alone : (a : RouteId) (ss : List SectionId) → AreSections site a ss → (s : SectionId) → Contains ss s ↔ LeadsOver site a s) (other_numbers : (a b : ℕ) → a ≢ b → is_same a b ≡ false)
    (points_there : (a : RouteId) (p : PointId) (s : Side) → RouteRequires site a p s → HasPoint site p) (promise : promised.Promise (machine_table table) machine)
    (sees : IsSeen site table world machine) (of : IsSnapshotOf table world snapshot) where
  -- the controller of a signal that shows an aspect
  showing : (signal : SignalId) (aspect : Aspect) → Shows snapshot signal aspect → (server : ClockedControllerState SignalState) × (slice_get world.signals signal.0 ≡ Some server) × (shown_by server ≡ aspect)
  showing signal aspect shows =
      let found = get_map as_shown world.signals signal.0 (record { 0 = aspect }) (ap (λ xs. slice_get xs signal.0) (sym of.shows) ∙ shows) in (found.0, found.1, ap (λ x. x.0) found.2)

  -- what such a signal shows the machine's shows
  shown_is_seen : (signal : SignalId) (aspect : Aspect) → Shows snapshot signal aspect → aspect ≢ aspects.Stop → shown (machine.signals signal.0) ≡ aspect_seen aspect
  shown_is_seen signal aspect shows other =
      let server = showing signal aspect shows in
      sees.shows signal.0 server.0 server.1 (λ e. other (sym server.2 ∙ e)) ∙ ap aspect_seen server.2

  shows_other : (signal : SignalId) → ShowsOther snapshot signal → promised.ShowsOther machine signal.0
  shows_other signal (aspect, shows, other) = λ e. other (aspects_are_told aspect aspects.Stop (sym (shown_is_seen signal aspect shows other) ∙ e))

  -- a route that is held for a signal is the machine's
  held_is_seen : (signal : SignalId) (route : RouteId) → IsHeldFor snapshot signal route → promised.IsHeldFor (machine_table table) machine signal.0 route.0
  held_is_seen signal route held = (sees.held signal.0 route.0).0 (subst (λ xs. Contains xs (record { signal = signal; route = route })) of.held held)

  seen_is_held : (signal : SignalId) (route : ℕ) → promised.IsHeldFor (machine_table table) machine signal.0 route → IsHeldFor snapshot signal (record { 0 = route })
  seen_is_held signal route held = subst (λ xs. Contains xs (record { signal = signal; route = record { 0 = route } })) (sym of.held) ((sees.held signal.0 route).1 held)

  -- a point that is seen to stand undriven does so
  stands_seen : (point : PointId) (side : Side) → HasPoint site point → seen_point.StandsUndriven (side_seen side) (machine.points point.0) → StandsUndriven snapshot point side
  stands_seen point side there stands = record { stands = standing; undriven = still } where
    place_there : point.0 < length world.positions
    place_there = subst (λ (n : ℕ). point.0 < n) (sym sees.positions) there

    server_there : point.0 < length world.points
    server_there = subst (λ (n : ℕ). point.0 < n) (sym sees.points) there

    position : (found : Position) × (slice_get world.positions point.0 ≡ Some found)
    position = get_below world.positions point.0 place_there

    server : (found : ClockedControllerState PointState) × (slice_get world.points point.0 ≡ Some found)
    server = get_below world.points point.0 server_there

    is_position : position.0 ≡ position_at side
    is_position = position_is_told position.0 side (sym (sees.stands point.0 position.0 position.1) ∙ stands.stands)

    standing : slice_get snapshot.position.items point.0 ≡ Some (record { 0 = position_at side })
    standing = ap (λ xs. slice_get xs point.0) of.position ∙ map_get as_stands world.positions point.0 position.0 position.1 ∙ ap (λ x. Some (as_stands x)) is_position

    no_drive : (drive : Option Side) → driven_by server.0 ≡ drive → drive ≡ None
    no_drive None e = refl
    no_drive (Some to) e = absurd (true≢false (sym (sees.driven point.0 server.0 to server.1 e) ∙ stands.undriven))

    still : slice_get snapshot.driven.items point.0 ≡ Some None
    still = ap (λ xs. slice_get xs point.0) of.driven ∙ map_get driven_by world.points point.0 server.0 server.1 ∙ ap Some (no_drive (driven_by server.0) refl)

  protected : (signal : SignalId) (aspect : Aspect) → Shows snapshot signal aspect → aspect ≢ aspects.Stop → IsProtected site snapshot signal aspect
  protected signal aspect shows other =
      let kept = promise.each signal.0 (shows_other signal (aspect, shows, other)) in record {
        route = record { 0 = kept.route };
        held = seen_is_held signal kept.route kept.held;
        only = λ route held. ap (λ n. record { 0 = n }) (kept.only route.0 (held_is_seen signal route held));
        shows = aspect_is_seen site table is (record { 0 = kept.route }) aspect (sym kept.aspect ∙ shown_is_seen signal aspect shows other) other;
        points = λ point side requires. stands_seen point side (points_there (record { 0 = kept.route }) point side requires)
            (kept.points point.0 (side_seen side) (requirement_is_seen site table is (record { 0 = kept.route }) point side requires));
      }

  there : (held : Held) → Contains snapshot.held.items held → IsThere site held
  there held contains = sees.there held (subst (λ xs. Contains xs held) of.held contains)

  apart : (signal other : SignalId) (a b : RouteId) → signal ≢ other → ShowsOther snapshot signal → ShowsOther snapshot other → IsHeldFor snapshot signal a → IsHeldFor snapshot other b → Conflict site a b → ⊥
  apart signal other a b differ shows other_shows held other_held conflict =
      promise.apart signal.0 other.0 a.0 b.0 (λ e. differ (ap (λ n. record { 0 = n }) e)) (shows_other signal shows) (shows_other other other_shows) (held_is_seen signal a held) (held_is_seen other b other_held)
      (conflict_is_seen site table is alone other_numbers a b (there (record { signal = signal; route = a }) held).route (there (record { signal = other; route = b }) other_held).route conflict)

  pub safe : Safe site snapshot
  safe = record {
    of = record {
      signals = ap length of.shows ∙ map_length as_shown world.signals ∙ sees.signals;
      positions = ap length of.position ∙ map_length as_stands world.positions ∙ sees.positions;
      drives = ap length of.driven ∙ map_length driven_by world.points ∙ sees.points;
      there = there;
    };
    each = protected;
    apart = apart;
  }
