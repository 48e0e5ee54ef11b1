-- The rules of a step call links in the order of the table: stops, then moves, then the aspects of routes.
use Rattle.std.proofs.Common.{◌≡◌, ◌⊎◌, inl, inr, ℕ, List, [], ◌∷◌, ◌++◌, length, refl, ap, ◌∙◌, subst}
use Rattle.std.specs.Prelude.{Option, Some, None, slice_get}
use Rattle.ixl_state.specs.rasta_core.Calls.{answer_to_send}
use Rattle.ixl_state.specs.rasta_core.Outbox.{OutboxState}
use Rattle.ixl_state.specs.rasta_core.State.{LinkState}
use Rattle.ixl_state.specs.rasta_core.reason.Reason.TheVariants as reason
use Rattle.ixl_state.specs.sci_telegram.Telegrams.{writing}
use Rattle.ixl_state.specs.sci_telegram.declared.message.Aspect.{Aspect}
use Rattle.ixl_state.specs.sci_telegram.declared.message.Aspect.TheVariants as aspects
use Rattle.ixl_state.specs.sci_telegram.declared.message.Side.{Side}
use Rattle.ixl_state.specs.ixl_client.Client.{ClientState, PeerState}
use Rattle.ixl_state.specs.ixl_client.ClientSoFar as client
use Rattle.ixl_state.specs.ixl_client.ClientSoFar.{Closes, Sends, begun, calling}
use Rattle.ixl_state.specs.ixl_client.Step.{commanding, is_refused_by_window, message_of, posting, telegram_to}
use Rattle.ixl_state.specs.ixl_client.declared.command.Command.{Command}
use Rattle.ixl_state.specs.ixl_client.declared.command.Command.TheVariants as commands
use Rattle.ixl_state.specs.ixl_spec.StepSoFar.{Detector, Node, StepSoFar, Point, Signal, all_below, giving_aspect, giving_move, over, with_route}
use Rattle.ixl_state.specs.ixl_spec.Rules.{authorised, come_to, count, ending_authority, freeing_by_cancel, freeing_by_passage, is_move_due, is_proceed_due, is_stop_due, moving, moving_one, proceeding, ruled, stopped, withdrawing}
use Rattle.ixl_state.specs.ixl_spec.State.{IxlState, RouteState}
use Rattle.ixl_state.specs.ixl_spec.Step.{client_at}
use Rattle.ixl_state.specs.ixl_spec.Table.{Need, Row, Table}
use Rattle.ixl_state.specs.ixl_spec.View.{is_signal_ready}
use Rattle.ixl_laws.specs.Order.{AreMovesOf, AtMostOne, CallsAtLink, Gives, InOrderOf, IsProceedOf, IsStopOf, calls_of}
use Rattle.ixl_laws.proofs.CalledSteps.{ClientLaws}
use Rattle.ixl_laws.proofs.Clients.{known_point_kept, known_signal_kept, point_at, signal_at}
use Rattle.ixl_laws.proofs.InOrder.{Grows, along_grows, at_route_grows, at_route_none, grows_from, grows_nothing, grows_one, over_rows}
use Rattle.ixl_laws.proofs.Ordered.{Ordered, SpeaksAs, same_ordered}
use Rattle.ixl_laws.proofs.OrderedNext.{point_next, signal_next}
use Rattle.ixl_laws.proofs.PickedByTest.{either}
use Rattle.ixl_laws.proofs.Ruled.{IsKeptByChanges, freed_holds, moving_holds, moving_one_holds, over_holds, proceeding_holds, withdrawing_holds, with_one_holds, with_one_or_none}

-- ---- a command

abbrev item_to : ClientState → Command → List ℕ
item_to one command = writing (telegram_to one.peer (message_of command))

commanding_calls : (now : ℕ) (command : Command) (one : ClientState) (outbox : OutboxState) →
    ((commanding now command (begun one outbox)).calls ≡ Sends (item_to one command) ∷ []) ⊎ ((commanding now command (begun one outbox)).calls ≡ Sends (item_to one command) ∷ Closes reason.Window ∷ [])
unfolding commanding posting calling
commanding_calls now command one outbox =
    either (λ (p : client.ClientSoFar). (p.calls ≡ Sends (item_to one command) ∷ []) ⊎ (p.calls ≡ Sends (item_to one command) ∷ Closes reason.Window ∷ []))
    (is_refused_by_window (answer_to_send now one.link)) _ _ (inr refl) (inl refl)

gives : (now : ℕ) (start : IxlState) (node : Node) (one : ClientState) (command : Command) (outbox : OutboxState) → SpeaksAs start node one →
    Gives start node command (record { node = node; calls = (commanding now command (begun one outbox)).calls })
gives now start node one command outbox speaks = record {
  there = refl;
  client = speaks.0;
  kept = speaks.1;
  calls = subst (λ (p : PeerState). ((commanding now command (begun one outbox)).calls ≡ Sends (writing (telegram_to p (message_of command))) ∷ [])
      ⊎ ((commanding now command (begun one outbox)).calls ≡ Sends (writing (telegram_to p (message_of command))) ∷ Closes reason.Window ∷ [])) speaks.2 (commanding_calls now command one outbox);
}

module _ (now : ℕ) (laws : ClientLaws now) (links : Node → Option LinkState) (start : IxlState) where
  abbrev pub Is : StepSoFar → Type 0
  Is part = Ordered now links start part

  pub route_ordered : (number : ℕ) (change : RouteState → RouteState) (part : StepSoFar) → Is part → Is (with_route number change part)
  route_ordered number change part is = same_ordered now links start part (with_route number change part).ixl same (record { signals = refl; points = refl; detectors = refl }) is where
    same : (node : Node) → client_at node (with_route number change part).ixl ≡ client_at node part.ixl
    same (Signal place) = refl
    same (Point place) = refl
    same (Detector place) = refl

  aspect_ordered : (signal : ℕ) (aspect : Aspect) (part : StepSoFar) → Is part → Is (giving_aspect now signal aspect part)
  unfolding giving_aspect
  aspect_ordered signal aspect part is = with_one_holds Is (slice_get part.ixl.known_signals signal) _ part (λ known_signal there.
      let before = begun known_signal.client part.outbox
      in let done = commanding now (commands.Indicate aspect) before
      in let makes = laws.command (commands.Indicate aspect) before
      in signal_next now links start signal known_signal part done (Some aspect) done.client.link.given known_signal.indicated makes.0 there (makes.1, laws.same_command (commands.Indicate aspect) before) is) is

  pub move_ordered : (point : ℕ) (side : Side) (part : StepSoFar) → Is part → Is (giving_move now point side part)
  unfolding giving_move
  move_ordered point side part is = with_one_holds Is (slice_get part.ixl.known_points point) _ part (λ known_point there.
      let before = begun known_point.client part.outbox
      in let makes = laws.command (commands.Move side) before
      in point_next now links start point known_point part (commanding now (commands.Move side) before) known_point.side (all_below (length part.ixl.routes)) makes.0 there (makes.1, laws.same_command (commands.Move side) before) is) is

  pub changes_ordered : IsKeptByChanges now Is
  changes_ordered = record { route = route_ordered; aspect = aspect_ordered; move = λ point side part available is. move_ordered point side part is }

  -- ---- what is given

  aspect_grows : (signal : ℕ) (aspect : Aspect) (part : StepSoFar) → Is part → Grows (AtMostOne (Gives start (Signal signal) (commands.Indicate aspect))) part (giving_aspect now signal aspect part)
  unfolding giving_aspect
  aspect_grows signal aspect part is = with_one_or_none (Grows (AtMostOne (Gives start (Signal signal) (commands.Indicate aspect))) part) (slice_get part.ixl.known_signals signal) _ part (λ known_signal there.
      grows_one (Gives start (Signal signal) (commands.Indicate aspect)) part _ (record { node = Signal signal; calls = (commanding now (commands.Indicate aspect) (begun known_signal.client part.outbox)).calls }) refl
      (gives now start (Signal signal) known_signal.client (commands.Indicate aspect) part.outbox (is.peers (Signal signal) known_signal.client (signal_at signal part.ixl ∙ ap known_signal_kept there))))
      (λ none. grows_nothing _ part part refl (inl refl))

  pub move_grows : (point : ℕ) (side : Side) (part : StepSoFar) → Is part → Grows (AtMostOne (Gives start (Point point) (commands.Move side))) part (giving_move now point side part)
  unfolding giving_move
  move_grows point side part is = with_one_or_none (Grows (AtMostOne (Gives start (Point point) (commands.Move side))) part) (slice_get part.ixl.known_points point) _ part (λ known_point there.
      grows_one (Gives start (Point point) (commands.Move side)) part _ (record { node = Point point; calls = (commanding now (commands.Move side) (begun known_point.client part.outbox)).calls }) refl
      (gives now start (Point point) known_point.client (commands.Move side) part.outbox (is.peers (Point point) known_point.client (point_at point part.ixl ∙ ap known_point_kept there))))
      (λ none. grows_nothing _ part part refl (inl refl))

  module _ (table : Table) where
    stop_grows : (number : ℕ) (part : StepSoFar) (row : Row) → Is part → slice_get table.rows number ≡ Some row → Grows (IsStopOf start row) part (withdrawing now table number part)
    unfolding withdrawing
    stop_grows number part row is at = at_route_grows (IsStopOf start row) table number _ part row at (inl refl) (λ route.
        either (Grows (IsStopOf start row) part) (is_stop_due table part.ixl row route) _ _
        (grows_from (IsStopOf start row) (with_route number (come_to _) part) part _ refl (stopped_grows (with_route number (come_to _) part) (route_ordered number _ part is)))
        (grows_nothing _ part part refl (inl refl)))
      where
        stopped_grows : (mid : StepSoFar) → Is mid → Grows (IsStopOf start row) mid (stopped now row mid)
        stopped_grows mid holds = either (Grows (IsStopOf start row) mid) (is_signal_ready mid.ixl row.entry) _ _ (aspect_grows row.entry aspects.Stop mid holds) (grows_nothing _ mid mid refl (inl refl))

    move_grows_for : (number : ℕ) (need : Need) (part : StepSoFar) → Is part → Grows (AtMostOne (Gives start (Point need.point) (commands.Move need.side))) part (moving_one now table number need part)
    unfolding moving_one
    move_grows_for number need part is = by_row (slice_get table.rows number) refl where
      Are : List CallsAtLink → Type 0
      Are = AtMostOne (Gives start (Point need.point) (commands.Move need.side))

      by_row : (row : Option Row) → slice_get table.rows number ≡ row → Grows Are part (moving_one now table number need part)
      by_row None at = grows_nothing Are part _ (at_route_none table number _ part at) (inl refl)
      by_row (Some row) at = at_route_grows Are table number _ part row at (inl refl) (λ route.
          either (Grows Are part) (is_move_due table part.ixl number route need) _ _ (move_grows need.point need.side part is) (grows_nothing _ part part refl (inl refl)))

    none_moved : (needs : List Need) → InOrderOf (λ (need : Need). AtMostOne (Gives start (Point need.point) (commands.Move need.side))) needs []
    none_moved [] = refl
    none_moved (first ∷ others) = ([], [], refl, inl refl, none_moved others)

    moves_grow : (number : ℕ) (part : StepSoFar) (row : Row) → Is part → slice_get table.rows number ≡ Some row → Grows (AreMovesOf start row) part (moving now table number part)
    unfolding moving
    moves_grow number part row is at = at_route_grows (AreMovesOf start row) table number _ part row at (none_moved row.needs) (λ route.
        along_grows Is (moving_one now table number) (λ need. AtMostOne (Gives start (Point need.point) (commands.Move need.side))) (λ need mid holds. moving_one_holds Is now changes_ordered table number need mid holds)
        (move_grows_for number) row.needs part is)

    proceed_grows : (number : ℕ) (part : StepSoFar) (row : Row) → Is part → slice_get table.rows number ≡ Some row → Grows (IsProceedOf start row) part (proceeding now table number part)
    unfolding proceeding
    proceed_grows number part row is at = at_route_grows (IsProceedOf start row) table number _ part row at (inl refl) (λ route.
        either (Grows (IsProceedOf start row) part) (is_proceed_due now table part.ixl row route) _ _
        (grows_from (IsProceedOf start row) (with_route number (authorised table part.ixl row) part) part _ refl
        (aspect_grows row.entry row.aspect (with_route number (authorised table part.ixl row) part) (route_ordered number (authorised table part.ixl row) part is)))
        (grows_nothing _ part part refl (inl refl)))

    -- ---- one rule after another

    pub record RulesGrow (a b : StepSoFar) : Type 0 where
      pub stops : List CallsAtLink
      pub moves : List CallsAtLink
      pub proceeds : List CallsAtLink
      pub calls : b.calls ≡ a.calls ++ calls_of stops ++ calls_of moves ++ calls_of proceeds
      pub stops_are : InOrderOf (IsStopOf start) table.rows stops
      pub moves_are : InOrderOf (AreMovesOf start) table.rows moves
      pub proceeds_are : InOrderOf (IsProceedOf start) table.rows proceeds
      pub ordered : Is b

    pub rules_grow : (part : StepSoFar) → Is part → RulesGrow part (ruled now table part)
    unfolding withdrawing moving proceeding
    rules_grow part is = record {
      stops = stops.turns;
      moves = moves.turns;
      proceeds = proceeds.turns;
      calls = proceeds.calls ∙ ap (λ calls. calls ++ calls_of proceeds.turns) (moves.calls
          ∙ ap (λ calls. calls ++ calls_of moves.turns) (freed_holds (λ p. p.calls ≡ part.calls ++ calls_of stops.turns) (λ number change p same. same) table now withdrawn_part stops.calls));
      stops_are = stops.are;
      moves_are = moves.are;
      proceeds_are = proceeds.are;
      ordered = over_holds Is (proceeding now table) (proceeding_holds Is now changes_ordered table) (count table) moved_part moved_is;
    } where
      withdrawn_part : StepSoFar
      withdrawn_part = over (withdrawing now table) (count table) part

      freed_part : StepSoFar
      freed_part = over (freeing_by_cancel now table) (count table) (over (freeing_by_passage table) (count table) (over (ending_authority now table) (count table) withdrawn_part))

      moved_part : StepSoFar
      moved_part = over (moving now table) (count table) freed_part

      withdrawn_is : Is withdrawn_part
      withdrawn_is = over_holds Is (withdrawing now table) (withdrawing_holds Is now changes_ordered table) (count table) part is

      freed_is : Is freed_part
      freed_is = freed_holds Is route_ordered table now withdrawn_part withdrawn_is

      moved_is : Is moved_part
      moved_is = over_holds Is (moving now table) (moving_holds Is now changes_ordered table) (count table) freed_part freed_is

      stops : Grows (InOrderOf (IsStopOf start) table.rows) part withdrawn_part
      stops = over_rows Is (withdrawing now table) table.rows (IsStopOf start) (withdrawing_holds Is now changes_ordered table) stop_grows (λ number p none. at_route_none table number _ p none) part is

      moves : Grows (InOrderOf (AreMovesOf start) table.rows) freed_part moved_part
      moves = over_rows Is (moving now table) table.rows (AreMovesOf start) (moving_holds Is now changes_ordered table) moves_grow (λ number p none. at_route_none table number _ p none) freed_part freed_is

      proceeds : Grows (InOrderOf (IsProceedOf start) table.rows) moved_part (over (proceeding now table) (count table) moved_part)
      proceeds = over_rows Is (proceeding now table) table.rows (IsProceedOf start) (proceeding_holds Is now changes_ordered table) proceed_grows (λ number p none. at_route_none table number _ p none) moved_part moved_is
