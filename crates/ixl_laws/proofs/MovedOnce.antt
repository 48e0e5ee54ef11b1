-- An accepted move by command is given to its point at once, and nothing else is sent to it in the step.
use Rattle.std.proofs.Common.{◌≡◌, ℕ, Bool, true, false, List, [], ◌∷◌, ◌++◌, append-nil, drop, refl, ap, sym, ◌∙◌, subst}
use Rattle.std.specs.Prelude.{◌==◌, map, None, Option, Some, slice_get}
use Rattle.std.proofs.lemmas.Bool.{eqb-false, eqb-true}
use Rattle.ixl_state.specs.layout.declared.ids.PointId.{PointId}
use Rattle.ixl_state.specs.sci_telegram.declared.message.Aspect.{Aspect}
use Rattle.ixl_state.specs.sci_telegram.declared.message.Side.{Side}
use Rattle.ixl_state.specs.rasta_core.Outbox.{OutboxState}
use Rattle.ixl_state.specs.ixl_client.Client.{ClientState}
use Rattle.ixl_state.specs.ixl_client.ClientSoFar.{ClientSoFar, LinkCall, begun, calling}
use Rattle.ixl_state.specs.ixl_client.ItemsSaid.{SaysCommand, items_sent}
use Rattle.ixl_state.specs.ixl_client.LinkClosed.{telegram_of}
use Rattle.ixl_state.specs.ixl_client.Step.{commanding, ticking}
use Rattle.ixl_state.specs.ixl_client.declared.command.Command.{Command}
use Rattle.ixl_state.specs.ixl_client.declared.command.Command.TheVariants as telegrams
use Rattle.ixl_state.specs.ixl_spec.Commands.{commanded_by, moved_at_once, obeyed, refusal}
use Rattle.ixl_state.specs.ixl_spec.Due.{IsAvailable}
use Rattle.ixl_state.specs.ixl_spec.Rules.{authorised, come_to, freed, one_freed, stopped}
use Rattle.ixl_state.specs.ixl_spec.Step.{Commands, Input, all_clocked, detector_ticking, given, known_point_ticking, known_signal_ticking}
use Rattle.ixl_state.specs.ixl_spec.StepSoFar.{Detector, Node, Point, Signal, StepSoFar, giving_aspect, giving_move, with_route}
use Rattle.ixl_state.specs.ixl_spec.Table.{Table}
use Rattle.ixl_state.specs.ixl_spec.View.{is_signal_ready}
use Rattle.ixl_state.specs.ixl_spec.declared.command.Command.TheVariants as commands
use Rattle.ixl_state.specs.ixl_spec.declared.command.Refusal.{Refusal}
use Rattle.ixl_state.specs.ixl_spec.declared.phase.Phase.TheVariants as phase
use Rattle.ixl.specs.Interlocking.{InterlockingState}
use Rattle.ixl_laws.specs.GivenOnce.{GivesMove, GivesTelegram, telegram_for}
use Rattle.ixl_laws.specs.Nodes.{is_node, of_node}
use Rattle.ixl_laws.specs.Operations.{IsMovedOnce}
use Rattle.ixl_laws.specs.WholeStep.{Beat, DoesItsTurn, EndAuthority, FreeCancelled, FreeSection, MovePoint, Passed, Proceed, Turn, TurnTaken, Watch, WholeStep, Withdraw, approach_seen, beaten, clock_left, heard}
use Rattle.ixl_laws.proofs.Nodes.{node_same, noted_elsewhere, noted_here}
use Rattle.ixl_laws.proofs.PickedByTest.{either, none_is, some_is, some_same}
use Rattle.ixl_laws.proofs.PointAnswers.{sent_joined}
use Rattle.ixl_laws.proofs.Ruled.{with_one_or_none}
use Rattle.ixl_laws.proofs.Telegrams.{move_is_sent}
use Rattle.ixl_laws.proofs.TurnKeeps.{Stays, through, up_to, where_stays}
use Rattle.ixl_laws.proofs.TurnMoves.{HasMoved, given_moved, moved_kept, moved_not_due}

-- ---- whether lists of items are the same can be seen of them

number_seen : (a b : ℕ) → Stays (a ≡ b) → a ≡ b
number_seen a b stays = by_test (a == b) refl where
  by_test : (same : Bool) → (a == b) ≡ same → a ≡ b
  by_test true is = eqb-true a b is
  by_test false apart = absurd (stays (eqb-false a b apart))

list_seen : {A : Type 0} → ((a b : A) → Stays (a ≡ b) → a ≡ b) → (list other : List A) → Stays (list ≡ other) → list ≡ other
list_seen each [] [] stays = refl
list_seen each [] (b ∷ others) stays = absurd (stays (λ same. none_is (ap (λ list. slice_get list 0) same)))
list_seen each (a ∷ rest) [] stays = absurd (stays (λ same. some_is (ap (λ list. slice_get list 0) same)))
list_seen each (a ∷ rest) (b ∷ others) stays =
    let first = each a b (λ apart. stays (λ same. apart (some_same (ap (λ list. slice_get list 0) same))))
    in let further = list_seen each rest others (λ apart. stays (λ same. apart (ap (drop 1) same)))
    in ap (λ one. one ∷ rest) first ∙ ap (λ list. b ∷ list) further

-- ---- what is sent to one point

ticks_send_nothing : (now : ℕ) (client : ClientState) (outbox : OutboxState) → items_sent (ticking now (begun client outbox)).calls ≡ []
unfolding ticking calling items_sent
ticks_send_nothing now client outbox = refl

module _ (now : ℕ) (table : Table) (point : ℕ) (items : List (List ℕ)) where
  -- these calls give the point's link these items
  abbrev AreSent : List (Node × LinkCall) → Type 0
  AreSent calls = items_sent (of_node (Point point) calls) ≡ items

  abbrev Sent : StepSoFar → Type 0
  Sent part = AreSent part.calls

  -- another link is called
  elsewhere_sent : (other : Node) (before : List (Node × LinkCall)) (calls : List LinkCall) → is_node (Point point) other ≡ false → AreSent before → AreSent (before ++ map (λ call. (other, call)) calls)
  elsewhere_sent other before calls apart sent = ap items_sent (noted_elsewhere (Point point) other before calls apart) ∙ sent

  -- whichever link is called, nothing is sent
  nothing_sent : (other : Node) (before : List (Node × LinkCall)) (calls : List LinkCall) → items_sent calls ≡ [] → AreSent before → AreSent (before ++ map (λ call. (other, call)) calls)
  nothing_sent other before calls nothing sent = by_node (is_node (Point point) other) refl where
    here : AreSent (before ++ map (λ call. (Point point, call)) calls)
    here = ap items_sent (noted_here (Point point) before calls) ∙ sent_joined (of_node (Point point) before) calls
        ∙ ap (λ more. items_sent (of_node (Point point) before) ++ more) nothing ∙ append-nil (items_sent (of_node (Point point) before)) ∙ sent

    by_node : (same : Bool) → is_node (Point point) other ≡ same → AreSent (before ++ map (λ call. (other, call)) calls)
    by_node true same = subst (λ node. AreSent (before ++ map (λ call. (node, call)) calls)) (node_same (Point point) other same) here
    by_node false apart = elsewhere_sent other before calls apart sent

  aspect_sent : (signal : ℕ) (aspect : Aspect) (part : StepSoFar) → Sent part → Sent (giving_aspect now signal aspect part)
  unfolding giving_aspect
  aspect_sent signal aspect part sent = with_one_or_none Sent (slice_get part.ixl.known_signals signal) _ part
      (λ known_signal there. elsewhere_sent (Signal signal) part.calls (commanding now (telegrams.Indicate aspect) (begun known_signal.client part.outbox)).calls refl sent) (λ none. sent)

  move_sent : (other : ℕ) (side : Side) (part : StepSoFar) → (other ≡ point → ⊥) → Sent part → Sent (giving_move now other side part)
  unfolding giving_move
  move_sent other side part apart sent = with_one_or_none Sent (slice_get part.ixl.known_points other) _ part
      (λ known_point there. elsewhere_sent (Point other) part.calls (commanding now (telegrams.Move side) (begun known_point.client part.outbox)).calls (differs (other == point) refl) sent) (λ none. sent)
    where
      differs : (same : Bool) → (other == point) ≡ same → (other == point) ≡ false
      differs true same = absurd (apart (eqb-true other point same))
      differs false is = is

  beaten_sent : (node : Node) (part : StepSoFar) → Sent part → Sent (beaten now node part)
  unfolding known_signal_ticking known_point_ticking detector_ticking
  beaten_sent (Signal place) part sent = with_one_or_none Sent (slice_get part.ixl.known_signals place) _ part
      (λ kept there. nothing_sent (Signal place) part.calls (ticking now (begun kept.client part.outbox)).calls (ticks_send_nothing now kept.client part.outbox) sent) (λ none. sent)
  beaten_sent (Point place) part sent = with_one_or_none Sent (slice_get part.ixl.known_points place) _ part
      (λ kept there. nothing_sent (Point place) part.calls (ticking now (begun kept.client part.outbox)).calls (ticks_send_nothing now kept.client part.outbox) sent) (λ none. sent)
  beaten_sent (Detector place) part sent = with_one_or_none Sent (slice_get part.ixl.detectors place) _ part
      (λ kept there. nothing_sent (Detector place) part.calls (ticking now (begun kept.client part.outbox)).calls (ticks_send_nothing now kept.client part.outbox) sent) (λ none. sent)

  -- once it was given a move, no turn sends it anything
  sent_kept : (turn : Turn) (before after : StepSoFar) → DoesItsTurn now table turn before after → HasMoved point before → Sent before → Stays (Sent after)
  sent_kept (Watch place) before after (row, route, is, does) moved sent lost =
      where_stays Sent before (with_route place (approach_seen table before.ixl row) before) after does sent (λ due. sent) lost
  sent_kept (Withdraw place) before after (row, route, is, does) moved sent lost =
      let part = with_route place (come_to phase.Withdrawn) before
      in where_stays Sent before (stopped now row part) after does sent (λ due. either Sent (is_signal_ready part.ixl row.entry) _ _ (aspect_sent row.entry _ part sent) sent) lost
  sent_kept (EndAuthority place) before after (row, route, is, does) moved sent lost =
      where_stays Sent before (with_route place (come_to (phase.Ended now 0)) before) after does sent (λ due. sent) lost
  sent_kept (FreeSection place) before after (row, route, is, does) moved sent lost =
      where_stays Sent before (with_route place (one_freed row route.phase) before) after does sent (λ due. sent) lost
  sent_kept (Passed place) before after (row, route, is, (same, none)) moved sent lost = lost (subst Sent (sym same) sent)
  sent_kept (FreeCancelled place) before after (row, route, is, does) moved sent lost =
      where_stays Sent before (with_route place freed before) after does sent (λ due. sent) lost
  sent_kept (MovePoint place need) before after (row, route, is, does) moved sent lost =
      where_stays Sent before (giving_move now need.point need.side before) after does sent
      (λ due. move_sent need.point need.side before (λ same. moved_not_due table before place route need (subst (λ n. HasMoved n before) (sym same) moved) is.1 due) sent) lost
  sent_kept (Proceed place) before after (row, route, is, does) moved sent lost =
      let part = with_route place (authorised table before.ixl row) before
      in where_stays Sent before (giving_aspect now row.entry row.aspect part) after does sent (λ due. aspect_sent row.entry row.aspect part sent) lost
  sent_kept (Beat node) before after same moved sent lost = lost (subst Sent (sym same) (beaten_sent node before sent))

  abbrev IsQuiet : StepSoFar → Type 0
  IsQuiet part = HasMoved point part × Sent part

  quiet_kept : (turn : Turn) (before after : StepSoFar) → DoesItsTurn now table turn before after → IsQuiet before → Stays (IsQuiet after)
  quiet_kept turn before after does (moved, sent) lost =
      moved_kept now table point turn before after does moved (λ still. sent_kept turn before after does moved sent (λ so. lost (still, so)))

-- ---- a step

module _ (now : ℕ) (point : PointId) (side : Side) (old : InterlockingState) where
  abbrev input : Input
  input = Commands (commands.Move point side)

  by_cause : Option Refusal → StepSoFar
  by_cause cause = moved_at_once now cause (commands.Move point side) (record (clock_left now old) { ixl = commanded_by now cause (commands.Move point side) (all_clocked now old.state.ixl) })

  pub nothing_moved : (cause : Refusal) → refusal now old.state.sited.table (commands.Move point side) (all_clocked now old.state.ixl) ≡ Some cause → heard now input old ≡ clock_left now old
  unfolding given moved_at_once by_cause
  nothing_moved cause refused = ap by_cause refused

  heard_moved : refusal now old.state.sited.table (commands.Move point side) (all_clocked now old.state.ixl) ≡ None → heard now input old ≡ giving_move now point.0 side (clock_left now old)
  unfolding given moved_at_once obeyed by_cause
  heard_moved accepted = ap by_cause accepted

  pub moved_once : (says : (command : Command) (part : ClientSoFar) → SaysCommand (telegram_of command part) part (commanding now command part)) →
      refusal now old.state.sited.table (commands.Move point side) (all_clocked now old.state.ixl) ≡ None → IsAvailable (all_clocked now old.state.ixl) point.0 →
      (new : InterlockingState) (step : WholeStep now input old new) → IsMovedOnce now point.0 side input old new step
  unfolding of_node
  moved_once says accepted (known_point, there, available) new step = record {
    known_point = known_point;
    there = there;
    at_once = at_once;
    no_other = no_other;
    alone = ap items_sent (step.calls (Point point.0)) ∙ list_seen (list_seen number_seen) (items_sent (of_node (Point point.0) step.last.calls)) items (λ lost.
        through now table (IsQuiet now table point.0 items) (quiet_kept now table point.0 items) step.turns begin step.last step.follow (moved, begins) (λ quiet. lost quiet.1));
  } where
    table : Table
    table = old.state.sited.table

    begin : StepSoFar
    begin = heard now input old

    items : List (List ℕ)
    items = telegram_for known_point.client (telegrams.Move side) ∷ []

    at_once : GivesTelegram (Point point.0) (telegram_for known_point.client (telegrams.Move side)) (clock_left now old) (heard now input old)
    at_once = subst (GivesTelegram (Point point.0) (telegram_for known_point.client (telegrams.Move side)) (clock_left now old)) (sym (heard_moved accepted))
        (move_is_sent now says point.0 side (clock_left now old) known_point there)

    moved : HasMoved point.0 (heard now input old)
    moved = subst (HasMoved point.0) (sym (heard_moved accepted)) (given_moved now point.0 side (clock_left now old))

    begins : items_sent (of_node (Point point.0) (heard now input old).calls) ≡ items
    begins = ap (λ list. items_sent (of_node (Point point.0) list)) at_once.made ∙ ap items_sent (noted_here (Point point.0) [] at_once.calls) ∙ at_once.sent

    no_other : (place : ℕ) (taken : TurnTaken) → slice_get step.turns place ≡ Some taken → GivesMove old.state.sited.table point.0 taken → ⊥
    no_other place taken at gives = up_to now table (HasMoved point.0) (moved_kept now table point.0) step.turns begin step.last step.follow place taken at moved
        (λ still. moved_not_due table taken.before gives.number gives.route gives.need (subst (λ n. HasMoved n taken.before) (sym gives.of_point) still) gives.is.1 gives.due)
