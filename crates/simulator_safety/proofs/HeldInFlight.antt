-- What is in flight in a world that the machine sees.
use Rattle.std.proofs.Common.{◌≡◌, ◌∙◌, ◌+◌, ◌<◌, ◌≤◌, true, ℕ, List, [], ◌∷◌, ◌++◌, length, Option, Some, refl, sym, ap, subst, arith, inl, inr, ⊎_elim}
use Rattle.std.specs.Prelude.{◌≢◌, ◌⊎◌, Ok, is_some, slice_get}
use Rattle.std.specs.List.{Contains}
use Rattle.std.proofs.lemmas.Bool.{true≢false}
use Rattle.std.proofs.lemmas.List.{append_cancel_left}
use Rattle.simulator_link_laws.specs.sci_telegram.TelegramRead.{reading}
use Rattle.simulator_link_laws.specs.sci_telegram.declared.message.Aspect.{Aspect}
use Rattle.simulator_link_laws.specs.sci_telegram.declared.message.Aspect.TheVariants as aspects
use Rattle.simulator_link_laws.specs.sci_telegram.declared.message.Message.{Message}
use Rattle.simulator_link_laws.specs.sci_telegram.declared.message.Position.{Position}
use Rattle.simulator_link_laws.specs.sci_telegram.declared.message.Side.{Side}
use Rattle.simulator_link_laws.specs.sci_telegram.declared.telegram.Telegram.{Telegram}
use Rattle.simulator_link_laws.specs.layout.declared.ids.PointId.{PointId}
use Rattle.simulator_link_laws.specs.layout.declared.ids.RouteId.{RouteId}
use Rattle.simulator_link_laws.specs.layout.declared.ids.SignalId.{SignalId}
use Rattle.simulator_link_laws.specs.layout.Entries.{Site}
use Rattle.simulator_link_laws.specs.layout.Station.{HasPoint}
use Rattle.simulator_link_laws.specs.control_table.Table.{RouteRequires}
use Rattle.simulator_link_laws.specs.rasta_core.Links.{Links, seen}
use Rattle.simulator_link_laws.specs.rasta_core.State.{LinkState, is_open}
use Rattle.simulator_link_laws.specs.point_ctl.Drive.{PointState}
use Rattle.simulator_link_laws.specs.signal_ctl.Signal.{SignalState}
use Rattle.simulator_link_laws.specs.ixl_spec.Table.{Table}
use Rattle.ixl_table.specs.Table.{IsTableOf}
use Rattle.simulator_machine.specs.Link.{Link, Server, Before, In, Gone}
use Rattle.simulator_machine.specs.Lists.{IsOf}
use Rattle.simulator_machine.specs.Machine.{Machine}
use Rattle.simulator_machine.specs.Point as machine_point
use Rattle.simulator_machine.specs.Signal as machine_signal
use Rattle.simulator_machine.specs.Signal.{IsLive, Stop, shown, shown_by as shown_in}
use Rattle.simulator_link_laws.specs.simulator_move_laws.Items.{all_said, aspect_seen, aspects_in, aspects_of, moves_in, moves_of, said_by}
use Rattle.simulator_link_laws.specs.simulator_move_laws.Items as items
use Rattle.simulator_link_laws.specs.simulator_move_laws.Telegrams.{side_seen}
use Rattle.simulator_link_laws.specs.simulator_spec.Nodes.{point_link}
use Rattle.simulator_link_laws.specs.simulator_spec.Seen.{shown_by}
use Rattle.simulator_link_laws.specs.simulator_spec.State.{ClockedControllerState, WorldState}
use Rattle.simulator_link_laws.specs.simulator_spec.Interlocking.{held_of}
use Rattle.simulator_link_laws.specs.simulator_event.Safe.{position_at}
use Rattle.simulator_link_laws.specs.simulator_event.declared.snapshot.Held.{Held}
use Rattle.simulator_safety.specs.InFlight.{Indicates, IsInFlight, IsMovingTo, Moves, MovesOrMayMove, ShowsOrMayShow}
use Rattle.simulator_safety.specs.Reached.{IsAtRest, IsOfHeldRoute}
use Rattle.simulator_safety.specs.Represents.{Represents}
use Rattle.simulator_safety.specs.Seen.{IsSeen}
use Rattle.simulator_safety.proofs.FlightEnds.{FlightLaws, is_in, rest_of, server_is_in}
use Rattle.simulator_safety.proofs.Rows.{aspect_is_seen, aspects_are_told, requirement_is_seen, true_both}
use Rattle.simulator_safety.proofs.Safe.{position_is_told}
use Rattle.simulator_safety.proofs.StationEnds.{server_represented}
use Rattle.simulator_safety.proofs.WorldLists.{contains_cases, contains_none, get_below}

-- ---- what items say

of_left : {A : Type 0} (one : A) (first rest : List A) → IsOf one first → IsOf one (first ++ rest)
of_left one [] rest of = absurd of
of_left one (head ∷ first) rest (inl same) = inl same
of_left one (head ∷ first) rest (inr of) = inr (of_left one first rest of)

of_right : {A : Type 0} (one : A) (first rest : List A) → IsOf one rest → IsOf one (first ++ rest)
of_right one [] rest of = of
of_right one (head ∷ first) rest of = inr (of_right one first rest of)

some_of : {A : Type 0} (one : A) (list : List A) → IsOf one list → 1 ≤ length list
some_of one [] of = absurd of
some_of one (head ∷ list) of = omega arith

joined_length : {A : Type 0} (first rest : List A) → length (first ++ rest) ≡ length first + length rest
joined_length [] rest = omega arith
joined_length (head ∷ first) rest = let shorter = joined_length first rest in omega (arith, shorter)

-- what one of some items says is among what they say
said : {A : Type 0} (of : Message → List A) (all : List (List ℕ)) (item : List ℕ) (telegram : Telegram) (one : A) → reading item ≡ Ok telegram → IsOf one (of telegram.message) → Contains all item
    → IsOf one (all_said of all)
unfolding all_said
said of [] item telegram one read says contained = absurd (contains_none item contained)
said of (first ∷ others) item telegram one read says contained =
    ⊎_elim (λ same. of_left one (said_by of (reading first)) (all_said of others) (subst (IsOf one) (sym (ap (λ (i : List ℕ). said_by of (reading i)) same ∙ ap (said_by of) read)) says))
    (λ later. of_right one (said_by of (reading first)) (all_said of others) (said of others item telegram one read says later)) (contains_cases first item others contained)

-- ---- what is shown

in_not_gone : In ≡ Gone → ⊥
in_not_gone e = cc (e)

shown_is_live : (signal : machine_signal.Signal) (aspect : machine_signal.Aspect) → aspect ≢ Stop → shown signal ≡ aspect → IsLive aspect signal
shown_is_live signal aspect other is = by signal.link.server refl where
  by : (where_it_is : Server) → signal.link.server ≡ where_it_is → IsLive aspect signal
  by Before at = absurd (other (sym is ∙ ap (λ (s : Server). shown_in s signal.done) at))
  by In at = record { other = other; stays = λ gone. in_not_gone (sym at ∙ gone); somewhere = inl (sym (ap (λ (s : Server). shown_in s signal.done) at) ∙ is) }
  by Gone at = absurd (other (sym is ∙ ap (λ (s : Server). shown_in s signal.done) at))

-- the laws of items and points that this stands on
pub record SayingLaws : Type 0 where
  pub aspects_join : (first others : List (List ℕ)) → aspects_in (first ++ others) ≡ aspects_in first ++ aspects_in others
  pub moves_join : (first others : List (List ℕ)) → moves_in (first ++ others) ≡ moves_in first ++ moves_in others

module _ (laws : FlightLaws) (saying : SayingLaws) (site : Site) (table : Table) (world : WorldState) (machine : Machine) (is : IsTableOf site table) (represented_by : Represents site table world machine)
    (sees : IsSeen site table world machine) where
  abbrev network : Links
  network = represented_by.network

  -- ---- aspects

  module _ (signal : SignalId) (aspect : Aspect) (other : aspect ≢ aspects.Stop) (controller : ClockedControllerState SignalState) (at : slice_get world.signals signal.0 ≡ Some controller) where
    abbrev of_machine : machine_signal.Signal
    of_machine = machine.signals signal.0

    seen_other : aspect_seen aspect ≢ Stop
    seen_other e = other (aspects_are_told aspect aspects.Stop e)

    live_in_flight : (item : List ℕ) → Indicates aspect item → IsInFlight site world signal.0 controller item → IsLive (aspect_seen aspect) of_machine
    live_in_flight item indicates flies =
        let end = laws.signal_end site world network represented_by.linked.whole represented_by.linked.are signal.0 controller at in
        let seen_as = represented_by.signals.each signal.0 controller at in
        let inside = is_in laws site world network represented_by.linked signal.0 end.0 controller end.1 item flies in
        let server : of_machine.link.server ≡ In = ap (λ (l : Link). l.server) seen_as.link ∙ server_represented (seen signal.0 network)
        ∙ server_is_in laws site world network represented_by.linked signal.0 end.0 controller end.1 item flies in
        let rest = rest_of laws site world network represented_by.linked signal.0 end.0 controller end.1 item flies in
        let flight : of_machine.flight ≡ aspects_in rest.0 = append_cancel_left of_machine.done of_machine.flight (aspects_in rest.0)
        (seen_as.given ∙ ap aspects_in rest.1 ∙ saying.aspects_join (seen signal.0 network).server.taken rest.0
        ∙ ap (λ (done : List machine_signal.Aspect). done ++ aspects_in rest.0) (sym (seen_as.done inside))) in
        let says : IsOf (aspect_seen aspect) (aspects_of indicates.telegram.message) = subst (λ (m : Message). IsOf (aspect_seen aspect) (aspects_of m)) (sym indicates.says) (inl refl) in
        let one : IsOf (aspect_seen aspect) (aspects_in rest.0) = said aspects_of rest.0 item indicates.telegram (aspect_seen aspect) indicates.read says rest.2
        in record {
          other = seen_other;
          stays = λ gone. in_not_gone (sym server ∙ gone);
          somewhere = inr (subst (IsOf (aspect_seen aspect)) (sym flight) one);
        }

    live : (shown_by controller ≡ aspect) ⊎ ((item : List ℕ) × Indicates aspect item × IsInFlight site world signal.0 controller item) → IsLive (aspect_seen aspect) of_machine
    live (inl shows) = shown_is_live of_machine (aspect_seen aspect) seen_other (sees.shows signal.0 controller at (λ e. other (sym shows ∙ e)) ∙ ap aspect_seen shows)
    live (inr (item, indicates, flies)) = live_in_flight item indicates flies

    of_held : (shown_by controller ≡ aspect) ⊎ ((item : List ℕ) × Indicates aspect item × IsInFlight site world signal.0 controller item) → IsOfHeldRoute site table world signal aspect
    of_held how =
        let backed = represented_by.invariant.backed signal.0 (aspect_seen aspect) (live how) in record {
          route = record { 0 = backed.0 };
          held = (sees.held signal.0 backed.0).1 backed.1;
          shows = aspect_is_seen site table is (record { 0 = backed.0 }) aspect backed.2 other;
        }

  pub held_aspects : (signal : SignalId) (aspect : Aspect) → aspect ≢ aspects.Stop → ShowsOrMayShow site world signal aspect → IsOfHeldRoute site table world signal aspect
  held_aspects signal aspect other shows = of_held signal aspect other shows.controller shows.there shows.how

  -- ---- points

  module _ (point : PointId) (controller : ClockedControllerState PointState) (at : slice_get world.points point.0 ≡ Some controller) where
    abbrev machine_at : machine_point.Point
    machine_at = machine.points point.0

    abbrev link : ℕ
    link = point_link site point.0

    moving_is_driven : (side : Side) → IsMovingTo side controller → machine_at.driven ≡ true
    moving_is_driven side moving =
        let end = laws.point_end site world network represented_by.linked.whole represented_by.linked.are point.0 controller at in
        let seen_as = represented_by.points.each point.0 controller at
        in seen_as.driven ∙ true_both _ _ (ap (λ (l : LinkState). is_open l.phase) end.1.link_is ∙ moving.inside) (ap (λ (to : Option Side). is_some to) moving.drive)

    flight_is_some : (side : Side) (item : List ℕ) → Moves side item → IsInFlight site world link controller item → (machine_at.link.server ≢ Gone) × (1 ≤ machine_at.flight)
    flight_is_some side item moves flies =
        let end = laws.point_end site world network represented_by.linked.whole represented_by.linked.are point.0 controller at in
        let seen_as = represented_by.points.each point.0 controller at in
        let inside = is_in laws site world network represented_by.linked link end.0 controller end.1 item flies in
        let server : machine_at.link.server ≡ In = ap (λ (l : Link). l.server) seen_as.link ∙ server_represented (seen link network)
        ∙ server_is_in laws site world network represented_by.linked link end.0 controller end.1 item flies in
        let rest = rest_of laws site world network represented_by.linked link end.0 controller end.1 item flies in
        let given : machine_at.taken + machine_at.flight ≡ length (moves_in (seen link network).server.taken) + length (moves_in rest.0) = seen_as.given
        ∙ ap (λ (g : List (List ℕ)). length (moves_in g)) rest.1 ∙ ap (λ (m : List machine_point.Side). length m) (saying.moves_join (seen link network).server.taken rest.0)
        ∙ joined_length (moves_in (seen link network).server.taken) (moves_in rest.0) in
        let taken = seen_as.taken inside in
        let says : IsOf (items.side_seen side) (moves_of moves.telegram.message) = subst (λ (m : Message). IsOf (items.side_seen side) (moves_of m)) (sym moves.says) (inl refl) in
        let some = some_of (items.side_seen side) (moves_in rest.0) (said moves_of rest.0 item moves.telegram (items.side_seen side) moves.read says rest.2)
        in (λ gone. in_not_gone (sym server ∙ gone), omega (arith, given, taken, some))

  unmoved : (point : PointId) (side : machine_point.Side) → machine_point.StandsUndriven side (machine.points point.0)
      → ((machine.points point.0).link.server ≢ Gone → (machine.points point.0).flight ≡ 0) → MovesOrMayMove site world point → ⊥
  unmoved point side stands still moves = by moves.how where
    by : IsMovingTo moves.side moves.controller ⊎ ((item : List ℕ) × Moves moves.side item × IsInFlight site world (point_link site point.0) moves.controller item) → ⊥
    by (inl moving) = true≢false (sym (moving_is_driven point moves.controller moves.there moves.side moving) ∙ stands.undriven)
    by (inr (item, commands, flies)) =
        let some = flight_is_some point moves.controller moves.there moves.side item commands flies in
        let none = still some.0 in
        let more = some.1 in absurd (omega (arith, none, more))

  pub at_rest : ((route : RouteId) (point : PointId) (side : Side) → RouteRequires site route point side → HasPoint site point) → (pair : Held) → Contains (held_of table world.interlocking world.frozen) pair
      → (point : PointId) (side : Side) → RouteRequires site pair.route point side → IsAtRest site world point side
  at_rest points_there pair contained point side requires =
      let there = points_there pair.route point side requires in
      let held = (sees.held pair.signal.0 pair.route.0).0 contained in
      let settled = represented_by.invariant.settled pair.route.0 point.0 (side_seen side) held.1 (requirement_is_seen site table is pair.route point side requires) in
      let position = get_below world.positions point.0 (subst (λ (n : ℕ). point.0 < n) (sym sees.positions) there) in
      let controller = get_below world.points point.0 (subst (λ (n : ℕ). point.0 < n) (sym sees.points) there) in
      let stands : position.0 ≡ position_at side = position_is_told position.0 side (sym (sees.stands point.0 position.0 position.1) ∙ settled.stands.stands)
      in record {
        stands = position.1 ∙ ap (λ (p : Position). Some p) stands;
        controller = controller.0;
        there = controller.1;
        unmoved = unmoved point (side_seen side) settled.stands settled.unmoved;
      }
