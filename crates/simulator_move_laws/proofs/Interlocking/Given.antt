-- What an input leaves: a datagram at one node, or a command.
use Rattle.std.proofs.Common.{◌≡◌, ℕ, suc, Bool, true, false, not, if◌then◌else◌, List, [], ◌∷◌, map, refl, sym, ap, subst, ◌∙◌}
use Rattle.std.specs.Prelude.{◌&&◌, ◌||◌, length, Option, Some, None, option_map, slice_get}
use Rattle.std.proofs.lemmas.Bool.{true≢false}
use Rattle.std.proofs.lemmas.Option.{slice_get-map}
use Rattle.ixl_spec.specs.rasta_pdu.declared.key.Key.{Key}
use Rattle.ixl_spec.specs.rasta_pdu.PduRead.{reading}
use Rattle.ixl_spec.specs.ixl_client.Made.{ActsOn, MakesAfterReceipt}
use Rattle.ixl_spec.specs.ixl_client.ClientSoFar as client
use Rattle.ixl_spec.specs.ixl_client.ClientSoFar.{LinkCall}
use Rattle.ixl_spec.specs.ixl_client.Step.{hearing}
use Rattle.std.specs.Option.{option_or}
use Rattle.ixl_spec.specs.closings.declared.thing.Thing.TheVariants.{Point as PointThing}
use Rattle.ixl_spec.specs.closings.Closed.{is_closed}
use Rattle.ixl_spec.specs.layout.declared.ids.PointId.{PointId}
use Rattle.ixl_spec.specs.sci_telegram.declared.message.Side.{Side as TelegramSide}
use Rattle.ixl_spec.specs.Operations.{first_holding, first_route, has_thing}
use Rattle.ixl_spec.specs.Commands.{closed_refusal, commanded_by, conflict_told, held_told, locking_refusal, moved_at_once, moving_refusal, obeyed, own_section_refusal, refusal, refused_where, released_at, request_refusal, route_set as set_here, set_anew, unmoved_for}
use Rattle.ixl_spec.specs.StepSoFar.{Detector, Node, StepSoFar, Point, Signal, giving_move, with_one}
use Rattle.ixl_spec.specs.State.{IxlState, RouteState, KnownPointState}
use Rattle.ixl_spec.specs.Step.{Commands, Datagram, Input, Tick, addressed, given as given_input, node_hearing}
use Rattle.ixl_spec.specs.Table.{Row, Table as Rows}
use Rattle.ixl_spec.specs.View.{first_blocking, holds_point, is_holding, is_point_available, is_set, some_route, was_authorised}
use Rattle.ixl_spec.specs.declared.command.Command.{Command}
use Rattle.ixl_spec.specs.declared.command.Command.TheVariants as commands
use Rattle.ixl_spec.specs.declared.command.Refusal.{Refusal}
use Rattle.ixl_spec.specs.declared.command.Refusal.TheVariants as refusals
use Rattle.ixl_spec.specs.declared.phase.Phase.{Phase as RoutePhase}
use Rattle.ixl_spec.specs.declared.phase.Phase.TheVariants as phase
use Rattle.simulator_machine.specs.Machine.{Machine, with_point, with_route as route_set, with_signal}
use Rattle.simulator_machine.specs.Moves.{MaySet, Sets}
use Rattle.simulator_machine.specs.Point.{Point as MachinePoint, PointMove}
use Rattle.simulator_machine.specs.Route.{Waiting, is_whole}
use Rattle.simulator_machine.specs.Signal.{SignalMove}
use Rattle.simulator_machine.specs.Chains.{MovesTo, PointMayChain, SignalMayChain, point_chained, signal_chained}
use Rattle.simulator_move_laws.specs.Calls.{Items, calls_at}
use Rattle.simulator_move_laws.specs.MachineSoFar.{Leads, KnownPointSoFar}
use Rattle.simulator_move_laws.specs.Facts.{FarEnds}
use Rattle.simulator_move_laws.specs.Nodes.{phase_seen, route_seen}
use Rattle.simulator_move_laws.specs.Rows.{AreHeldAtFirst, machine_table}
use Rattle.simulator_move_laws.specs.Sees.{Given}
use Rattle.simulator_move_laws.proofs.Interlocking.Blocks.{unblocked}
use Rattle.simulator_move_laws.proofs.Interlocking.Nodes.{known_signal_hears}
use Rattle.simulator_move_laws.proofs.Interlocking.Routes.{route_on, route_same}
use Rattle.simulator_move_laws.proofs.Interlocking.RulesKept.{moves_point, one_move}
use Rattle.simulator_move_laws.proofs.Interlocking.KnownPointNodes.{known_point_hears}
use Rattle.simulator_move_laws.proofs.Interlocking.UnseenWatches.{detector_hears}

not_refused : (fails : Bool) (told : Refusal) (otherwise : Option Refusal) → refused_where fails told otherwise ≡ None → (fails ≡ false) × (otherwise ≡ None)
not_refused true told otherwise is = absurd (cc (is))
not_refused false told otherwise is = (refl, is)

no_conflict : (blocking : Option ℕ) (otherwise : Option Refusal) → conflict_told blocking otherwise ≡ None → blocking ≡ None
no_conflict None otherwise is = refl
no_conflict (Some blocking) otherwise is = absurd (cc (is))

no_first : (one other : Option Refusal) → option_or one other ≡ None → one ≡ None
no_first None other is = refl
no_first (Some one) other is = absurd (cc (is))

no_holder : (holder : Option ℕ) (otherwise : Option Refusal) → held_told holder otherwise ≡ None → (holder ≡ None) × (otherwise ≡ None)
no_holder None otherwise is = (refl, is)
no_holder (Some holder) otherwise is = absurd (cc (is))

stands_so : (b : Bool) → not b ≡ false → b ≡ true
stands_so true is = refl
stands_so false is = absurd (true≢false is)

-- a point that no set route holds is held by none with authority
none_with_authority : (point number : ℕ) (rows : List Row) (routes : List RouteState) → first_route (λ number row route. holds_point row route.phase point) number rows routes ≡ None →
    some_route (λ number row route. was_authorised route.phase && holds_point row route.phase point) number rows routes ≡ false
none_with_authority point number [] routes none = refl
none_with_authority point number (row ∷ rows) [] none = refl
none_with_authority point number (row ∷ rows) (route ∷ routes) none = by_held (holds_point row route.phase point) (was_authorised route.phase) none (none_with_authority point (suc number) rows routes) where
  by_held : (held authorised : Bool) → (if held then Some number else first_route (λ number row route. holds_point row route.phase point) (suc number) rows routes) ≡ None →
      (first_route (λ number row route. holds_point row route.phase point) (suc number) rows routes ≡ None → some_route (λ number row route. was_authorised route.phase && holds_point row route.phase point) (suc number) rows routes ≡ false) →
      (authorised && held) || some_route (λ number row route. was_authorised route.phase && holds_point row route.phase point) (suc number) rows routes ≡ false
  by_held true authorised told behind = absurd (cc (told))
  by_held false true told behind = behind told
  by_held false false told behind = behind told

free_at : (p : RoutePhase) → is_set p ≡ false → p ≡ phase.Free
free_at phase.Free is = refl
free_at phase.Waiting is = absurd (true≢false is)
free_at phase.Proceeding is = absurd (true≢false is)
free_at phase.Withdrawn is = absurd (true≢false is)
free_at (phase.Ended clock done) is = absurd (true≢false is)

module _ (now : ℕ) (input : Input) (rows : Rows) (ixl : IxlState) (given : Given) (machine : Machine) (far : FarEnds now input ixl given machine)
    (chain_signal : (machine : Machine) (place : ℕ) (moves : List SignalMove) → SignalMayChain moves (machine.signals place)
    → MovesTo (machine_table rows) machine (with_signal place (signal_chained moves (machine.signals place)) machine))
    (chain_point : (machine : Machine) (place : ℕ) (moves : List PointMove) → PointMayChain moves (machine.points place)
    → MovesTo (machine_table rows) machine (with_point place (point_chained moves (machine.points place)) machine))
    (onward : (old between new : Machine) → MovesTo (machine_table rows) old between → MovesTo (machine_table rows) between new → MovesTo (machine_table rows) old new)
    (acts : (now : ℕ) (bytes : List ℕ) (part : client.ClientSoFar) → ActsOn now bytes part (hearing now bytes part))
    (receipt : (now : ℕ) (bytes : List ℕ) (part : client.ClientSoFar) → MakesAfterReceipt now bytes part (hearing now bytes part))
    (at_first : AreHeldAtFirst rows) (counted : length ixl.routes ≡ length rows.rows) where
  abbrev On : StepSoFar → Type 0
  On part = Leads now input (machine_table rows) ixl given machine part

  -- ---- a datagram

  node_hears : (bytes : List ℕ) (node : Node) (part : StepSoFar) → input ≡ Datagram bytes → On part → On (node_hearing now rows bytes node part)
  unfolding node_hearing
  node_hears bytes (Signal place) part from on = known_signal_hears now input (machine_table rows) ixl given machine far chain_signal onward bytes place part from on
  node_hears bytes (Point place) part from on = known_point_hears now input (machine_table rows) ixl given machine far chain_point onward acts receipt bytes place part from on
  node_hears bytes (Detector place) part from on = detector_hears now input (machine_table rows) rows ixl given machine onward bytes place part on

  -- ---- commands

  unmoved_seen : (number : ℕ) (first : Option KnownPointState) (before : Items) (calls : List LinkCall) (list : List KnownPointState) (place : ℕ) (old new : MachinePoint) →
      KnownPointSoFar now input (machine_table rows) ixl given machine first before calls (slice_get list place) old new →
      KnownPointSoFar now input (machine_table rows) ixl given machine first before calls (slice_get (map (unmoved_for number) list) place) old new
  unmoved_seen number first before calls list place old new so_far = subst (λ s. KnownPointSoFar now input (machine_table rows) ixl given machine first before calls s old new) (sym (slice_get-map (unmoved_for number) list place))
      (cases first (slice_get list place) so_far) where
        cases : (first known_point : Option KnownPointState) → KnownPointSoFar now input (machine_table rows) ixl given machine first before calls known_point old new →
            KnownPointSoFar now input (machine_table rows) ixl given machine first before calls (option_map (unmoved_for number) known_point) old new
        cases None None is = is
        cases None (Some known_point) is = is
        cases (Some first) None is = is
        cases (Some first) (Some known_point) is = record {
          fits = record {
            commands = is.fits.commands;
            client = is.fits.client;
            peer = is.fits.peer;
            place = is.fits.place;
            moves = is.fits.moves;
            told = is.fits.told;
            heard = is.fits.heard;
            last = is.fits.last;
          };
          held = is.held;
          are = is.are;
          made = is.made;
          same = is.same;
          stays = is.stays;
          totals = is.totals;
        }

  -- a route that isn't refused is set
  sets_route : (number : ℕ) (part : StepSoFar) (row : Row) (route : RouteState) → slice_get rows.rows number ≡ Some row → slice_get part.ixl.routes number ≡ Some route →
      request_refusal now rows part.ixl number (Some row) (Some route) ≡ None → On part → On (record part { ixl = set_here number part.ixl })
  unfolding locking_refusal
  sets_route number part row route has is none (new, during) =
      let holds = not_refused (is_holding now part.ixl) refusals.Holding _ none
      in let resumed = not_refused (not part.ixl.resumed) refusals.NotResumed _ holds.1
      in let free = not_refused (is_set route.phase) refusals.AlreadySet (option_or (locking_refusal now rows part.ixl number row) (closed_refusal rows part.ixl number row)) resumed.1
      in let blocked = no_conflict (first_blocking number row 0 rows.rows part.ixl.routes) _ (no_first (locking_refusal now rows part.ixl number row) (closed_refusal rows part.ixl number row) free.1)
      in let holding = during.holding ∙ ap (λ created. is_holding now (record ixl { created = created })) (sym during.created) ∙ holds.0
      in let may : MaySet (machine_table rows) new number = record {
        resumed = holding;
        free = during.routes number ∙ ap route_seen is ∙ ap phase_seen (free_at route.phase free.0);
        unblocked = λ other whole conflict. unblocked rows part.ixl.routes number row other at_first (during.count ∙ counted) has blocked (ap is_whole (sym (during.routes other)) ∙ whole) (slice_get rows.rows other) refl conflict;
      }
      in let set = route_on now input (machine_table rows) ixl given machine onward number set_anew part new route during is (one_move (machine_table rows) new (Sets number) may)
      in (
        route_set number Waiting new,
        record {
          signals = set.signals;
          points = λ place. unmoved_seen number (slice_get ixl.known_points place) (given.points place) (calls_at (Point place) part.calls) part.ixl.known_points place (machine.points place) (new.points place) (set.points place);
          routes = set.routes;
          count = set.count;
          created = set.created;
          holding = set.holding;
          frozen = set.frozen;
          moves = set.moves;
        },
      )

  obeys : (command : Command) (part : StepSoFar) → refusal now rows command part.ixl ≡ None → On part → On (record part { ixl = obeyed now command part.ixl })
  unfolding refusal obeyed
  obeys (commands.Request route) part none on = by_route (slice_get rows.rows route.0) refl (slice_get part.ixl.routes route.0) refl none where
    by_route : (row : Option Row) → slice_get rows.rows route.0 ≡ row → (state : Option RouteState) → slice_get part.ixl.routes route.0 ≡ state → request_refusal now rows part.ixl route.0 row state ≡ None →
        On (record part { ixl = set_here route.0 part.ixl })
    by_route None has state is none = absurd (cc (none))
    by_route (Some row) has None is none = absurd (cc (none))
    by_route (Some row) has (Some state) is none = sets_route route.0 part row state has is none on
  obeys (commands.Cancel route) part none on = route_same now input (machine_table rows) ixl given machine onward route.0 (λ old. record old { cancelled = true }) part (λ other at. refl) on
  obeys commands.Resume part none (new, during) = (
    new,
    record {
      signals = during.signals;
      points = during.points;
      routes = during.routes;
      count = during.count;
      created = during.created;
      holding = during.holding;
      frozen = during.frozen;
      moves = during.moves;
    },
  )
  obeys (commands.Release route) part none on = route_same now input (machine_table rows) ixl given machine onward route.0 (released_at now) part (λ other at. refl) on
  obeys (commands.Move point side) part none on = on
  obeys (commands.Close named) part none (new, during) = (
    new,
    record {
      signals = during.signals;
      points = during.points;
      routes = during.routes;
      count = during.count;
      created = during.created;
      holding = during.holding;
      frozen = during.frozen;
      moves = during.moves;
    },
  )
  obeys (commands.Open named) part none (new, during) = (
    new,
    record {
      signals = during.signals;
      points = during.points;
      routes = during.routes;
      count = during.count;
      created = during.created;
      holding = during.holding;
      frozen = during.frozen;
      moves = during.moves;
    },
  )

  -- a move that isn't refused is given to a point that is available, and that no set route holds
  moving : (point : PointId) (side : TelegramSide) (part : StepSoFar) → moving_refusal rows part.ixl point side ≡ None → On part → On (giving_move now point.0 side part)
  unfolding moving_refusal
  moving point side part none on =
      let own : Option Refusal = own_section_refusal rows part.ixl point.0
      in let last : Option Refusal = refused_where (not (is_point_available part.ixl point.0)) (refusals.PointUnavailable point) own
      in let held : Option Refusal = held_told (first_holding rows part.ixl point.0) last
      in let opened = not_refused (is_closed part.ixl.closed (PointThing point side)) (refusals.Closed (PointThing point side)) held none
      in let unheld = no_holder (first_holding rows part.ixl point.0) last opened.1
      in let near = not_refused (not (is_point_available part.ixl point.0)) (refusals.PointUnavailable point) own unheld.1
      in moves_point now input rows ixl given machine far chain_signal chain_point onward acts receipt at_first point.0 side part (stands_so _ near.0) (none_with_authority point.0 0 rows.rows part.ixl.routes unheld.0) on

  moves : (cause : Option Refusal) (command : Command) (part : StepSoFar) → refusal now rows command part.ixl ≡ cause → On (record part { ixl = commanded_by now cause command part.ixl }) →
      On (moved_at_once now cause command (record part { ixl = commanded_by now cause command part.ixl }))
  unfolding refusal moved_at_once obeyed
  moves (Some refused) command part is on = on
  moves None (commands.Move point side) part is on =
      let resumed : Option Refusal = refused_where (not part.ixl.resumed) refusals.NotResumed (moving_refusal rows part.ixl point side)
      in let holding : Option Refusal = refused_where (is_holding now part.ixl) refusals.Holding resumed
      in let there = not_refused (not (has_thing rows part.ixl (PointThing point side))) refusals.NoSuchThing holding is
      in let over = not_refused (is_holding now part.ixl) refusals.Holding resumed there.1
      in moving point side part (not_refused (not part.ixl.resumed) refusals.NotResumed (moving_refusal rows part.ixl point side) over.1).1 on
  moves None (commands.Request route) part is on = on
  moves None (commands.Cancel route) part is on = on
  moves None commands.Resume part is on = on
  moves None (commands.Release route) part is on = on
  moves None (commands.Close named) part is on = on
  moves None (commands.Open named) part is on = on

  pub inputs_kept : (key : Key) (part : StepSoFar) → On part → On (given_input now rows key input part)
  unfolding given_input
  inputs_kept key part on = by_input input refl where
    heard : (bytes : List ℕ) → input ≡ Datagram bytes → (node : Option Node) → On (with_one node (node_hearing now rows bytes) part)
    heard bytes from None = on
    heard bytes from (Some node) = node_hears bytes node part from on

    told : (command : Command) (refused : Option Refusal) → refusal now rows command part.ixl ≡ refused → On (record part { ixl = commanded_by now refused command part.ixl })
    told command None none = obeys command part none on
    told command (Some why) none = (
      on.0,
      record {
        signals = on.1.signals;
        points = on.1.points;
        routes = on.1.routes;
        count = on.1.count;
        created = on.1.created;
        holding = on.1.holding;
        frozen = on.1.frozen;
        moves = on.1.moves;
      },
    )

    by_input : (which : Input) → input ≡ which → On (given_input now rows key which part)
    by_input Tick is = on
    by_input (Datagram bytes) is = heard bytes is (addressed (reading key bytes) part.ixl)
    by_input (Commands command) is = moves (refusal now rows command part.ixl) command part refl (told command (refusal now rows command part.ixl) refl)
