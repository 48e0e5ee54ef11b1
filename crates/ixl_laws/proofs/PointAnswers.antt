-- What a point is given and tells through the parts of a step.
use Rattle.std.proofs.Common.{◌≡◌, ℕ, ◌+◌, Bool, true, false, List, [], ◌∷◌, ◌++◌, append_assoc, append-nil, length, length-append, arith, refl, ap, sym, ◌∙◌, subst}
use Rattle.std.specs.Prelude.{◌==◌, Option, Some, None, slice_get}
use Rattle.std.proofs.lemmas.Bool.{eq-eqb, eqb-true, false≢true}
use Rattle.ixl_state.specs.sci_telegram.Telegrams.{writing}
use Rattle.ixl_state.specs.sci_telegram.declared.message.Aspect.{Aspect}
use Rattle.ixl_state.specs.sci_telegram.declared.message.Side.{Side}
use Rattle.ixl_state.specs.rasta_pdu.PduRead.{reading}
use Rattle.ixl_state.specs.rasta_pdu.declared.key.Key.{Key}
use Rattle.ixl_state.specs.bit_row.Places.{Places}
use Rattle.ixl_state.specs.ixl_client.Client.{ClientState, PeerState, is_available, is_outside}
use Rattle.ixl_state.specs.ixl_client.Made.{ActsOn, told_by_all}
use Rattle.ixl_state.specs.ixl_client.ClientSoFar as client
use Rattle.ixl_state.specs.ixl_client.ClientSoFar.{LinkCall, Closes, Opens, Receives, Sends, Ticks, begun, calling}
use Rattle.ixl_state.specs.ixl_client.Step.{at_stage, commanding, hearing, message_of, posting, stage_after_command, telegram_to, ticking}
use Rattle.ixl_state.specs.ixl_client.declared.command.Command.{Command}
use Rattle.ixl_state.specs.ixl_client.declared.command.Command.TheVariants as commands
use Rattle.ixl_state.specs.ixl_client.declared.indication.Indication.{Indication}
use Rattle.ixl_state.specs.ixl_client.declared.indication.ObjectState.{ObjectState}
use Rattle.ixl_state.specs.ixl_client.declared.stage.Stage.{Stage}
use Rattle.ixl_state.specs.ixl_client.declared.stage.Stage.TheVariants as stage
use Rattle.ixl_state.specs.ixl_client.LinkClosed.{telegram_of}
use Rattle.ixl_state.specs.ixl_client.ItemsSaid.{SaysCommand, SaysInOrder, SaysNothing, items_said, items_sent}
use Rattle.ixl_state.specs.ixl_spec.Commands.{commanded_by, moved_at_once, obeyed, refusal, unmoved_for}
use Rattle.ixl_state.specs.ixl_spec.StepSoFar.{Detector, Node, StepSoFar, Point, Signal, all_below, giving_aspect, giving_move, noted, over, known_point_after, with_one, with_route, with_known_point}
use Rattle.ixl_state.specs.ixl_spec.Rules.{count, ruled}
use Rattle.ixl_state.specs.ixl_spec.State.{RouteState, KnownPointState}
use Rattle.ixl_state.specs.ixl_spec.Step.{Commands, Datagram, Input, Tick, addressed, detector_hearing, detector_ticking, given, known_signal_hearing, known_signal_ticking, looking, looks, node_hearing, side_heard, known_point_hearing, known_point_ticking, ticked, watching}
use Rattle.ixl_state.specs.ixl_spec.Table.{Table, at, passes}
use Rattle.ixl_state.specs.ixl_spec.View.{is_point_available}
use Rattle.ixl_state.specs.ixl_spec.declared.command.Command.{Command as RouteCommand}
use Rattle.ixl_state.specs.ixl_spec.declared.command.Command.TheVariants as given_commands
use Rattle.ixl_state.specs.ixl_spec.declared.command.Refusal.{Refusal}
use Rattle.ixl_laws.specs.Answered.{IsOfPoint, last_told, move_items, states_of, told_in}
use Rattle.ixl_laws.specs.Nodes.{is_node, of_node}
use Rattle.ixl_laws.proofs.Clients.{becomes_there, mapped, known_point_client}
use Rattle.ixl_laws.proofs.Hears.{Counts, HearsBehind, fallen_peer, hearing_hears, inside_stays, posting_posts}
use Rattle.ixl_laws.proofs.Nodes.{noted_elsewhere, noted_here}
use Rattle.ixl_laws.proofs.Moved.{moved_available}
use Rattle.ixl_laws.proofs.PickedByTest.{changed_elsewhere, none_is, some_same}
use Rattle.ixl_laws.proofs.Ruled.{along_holds, looking_holds, over_holds, ruled_holds, seen_holds, with_one_holds}

-- ---- lists

pub sent_joined : (some more : List LinkCall) → items_sent (some ++ more) ≡ items_sent some ++ items_sent more
unfolding items_sent
sent_joined [] more = refl
sent_joined (Sends item ∷ others) more = ap (λ items. item ∷ items) (sent_joined others more)
sent_joined (Opens ∷ others) more = sent_joined others more
sent_joined (Ticks ∷ others) more = sent_joined others more
sent_joined (Closes why ∷ others) more = sent_joined others more
sent_joined (Receives bytes ∷ others) more = sent_joined others more

moves_joined : (peer : PeerState) (some more : List Side) → move_items peer (some ++ more) ≡ move_items peer some ++ move_items peer more
moves_joined peer [] more = refl
moves_joined peer (first ∷ others) more = ap (λ items. writing (telegram_to peer (message_of (commands.Move first))) ∷ items) (moves_joined peer others more)

last_joined : (side : Option Side) (some more : List ObjectState) → last_told side (some ++ more) ≡ last_told (last_told side some) more
last_joined side [] more = refl
last_joined side (first ∷ others) more = last_joined _ others more

pub heard_last : (side : Option Side) (heard : List Indication) → side_heard heard side ≡ last_told side (states_of heard)
heard_last side [] = refl
heard_last side (first ∷ others) = heard_last _ others

-- ---- what becomes of a point

pub known_point_side : (side : Option Side) (moved : Places) (client : ClientState) → is_outside client.stage ≡ false → (known_point_after side moved client).side ≡ side
unfolding known_point_after
known_point_side side moved client inside = rw inside refl

pub known_point_none : (side : Option Side) (moved : Places) (client : ClientState) → is_outside client.stage ≡ true → (known_point_after side moved client).side ≡ None
unfolding known_point_after
known_point_none side moved client outside = rw outside refl

pub available_completed : (s : Stage) → is_available s ≡ true → s ≡ stage.Completed
available_completed stage.Outside is = absurd (false≢true is)
available_completed stage.AwaitsAnswer is = absurd (false≢true is)
available_completed stage.AwaitsStart is = absurd (false≢true is)
available_completed (stage.AwaitsStatus left) is = absurd (false≢true is)
available_completed stage.Completed is = refl
available_completed stage.AwaitsReport is = absurd (false≢true is)

-- what a move leaves of a client
record Commanded (command : Command) (a b : client.ClientSoFar) : Type 0 where
  peer : b.client.peer ≡ a.client.peer
  acted : b.acted ≡ a.acted
  stage : is_outside b.client.stage ≡ false → b.client.stage ≡ stage_after_command command a.client.stage

commanding_leaves : (now : ℕ) (command : Command) (a : client.ClientSoFar) → Commanded command a (commanding now command a)
unfolding commanding
commanding_leaves now command a =
    let posts = posting_posts now (message_of command) a
    in let done : client.ClientSoFar = at_stage (stage_after_command command a.client.stage) (posting now (message_of command) a)
    in record { peer = fallen_peer done.client ∙ posts.peer; acted = posts.acted; stage = λ inside. inside_stays done.client inside }

-- and what a tick leaves
record Ticked (a b : client.ClientSoFar) : Type 0 where
  peer : b.client.peer ≡ a.client.peer
  acted : b.acted ≡ a.acted
  stage : is_outside b.client.stage ≡ false → b.client.stage ≡ a.client.stage

ticking_leaves : (now : ℕ) (a : client.ClientSoFar) → Ticked a (ticking now a)
unfolding ticking calling
ticking_leaves now a =
    let done : client.ClientSoFar = calling now Opens (calling now Ticks a)
    in record { peer = fallen_peer done.client; acted = refl; stage = λ inside. inside_stays done.client inside }

-- what is done with the point that stands at a place
unfoldable pub moved_by : ℕ → ℕ → Side → KnownPointState → StepSoFar → StepSoFar
moved_by now point side known_point part =
    let done = commanding now (commands.Move side) (begun known_point.client part.outbox)
    in with_known_point point (known_point_after known_point.side (all_below (length part.ixl.routes)) done.client) (noted (Point point) done part)

ticked_by : ℕ → ℕ → KnownPointState → StepSoFar → StepSoFar
ticked_by now point known_point part =
    let done = ticking now (begun known_point.client part.outbox)
    in with_known_point point (known_point_after known_point.side known_point.moved done.client) (noted (Point point) done part)

heard_by : ℕ → List ℕ → ℕ → KnownPointState → StepSoFar → StepSoFar
heard_by now bytes point known_point part =
    let done = hearing now bytes (begun known_point.client part.outbox)
    in with_known_point point (known_point_after (side_heard done.heard known_point.side) known_point.moved done.client) (noted (Point point) done part)

-- ---- what each kind of step of a client says, and what it hears

abbrev pub Says : ℕ → Type 0
Says now = (command : Command) (a : client.ClientSoFar) → SaysCommand (telegram_of command a) a (commanding now command a)

abbrev pub SaysNoMore : ℕ → Type 0
SaysNoMore now = (a : client.ClientSoFar) → SaysNothing a (ticking now a)

abbrev pub Hears : ℕ → Type 0
Hears now = (bytes : List ℕ) (a : client.ClientSoFar) → SaysInOrder a (hearing now bytes a) × ActsOn now bytes a (hearing now bytes a)

-- ---- one point, through a step

module _ (place : ℕ) (start : KnownPointState) (moves : List Side) (told : List ObjectState) where
  -- so far, if it is in a connection
  pub record Fine (calls : List LinkCall) (acted : List (List ℕ)) (known_point : KnownPointState) (more : List Side) : Type 0 where
    pub peer : known_point.client.peer ≡ start.client.peer
    pub sent : is_outside known_point.client.stage ≡ false → items_said start.client ++ items_sent calls ≡ items_said known_point.client ++ move_items start.client.peer more
    pub counted : is_outside known_point.client.stage ≡ false → Counts known_point.client.stage (moves ++ more) (told ++ told_in start.client.peer acted)
    pub last : is_outside known_point.client.stage ≡ false → known_point.side ≡ last_told None (told ++ told_in start.client.peer acted)

  pub record SoFar (part : StepSoFar) : Type 0 where
    pub known_point : KnownPointState
    pub more : List Side
    pub there : slice_get part.ixl.known_points place ≡ Some known_point
    pub fine : Fine (of_node (Point place) part.calls) (of_node (Point place) part.acted) known_point more

  -- another point with the same client and the same side
  alike : (calls : List LinkCall) (acted : List (List ℕ)) (known_point other : KnownPointState) (more : List Side) → other.client ≡ known_point.client → other.side ≡ known_point.side → Fine calls acted known_point more → Fine calls acted other more
  alike calls acted known_point other more client side is = record {
    peer = ap (λ (c : ClientState). c.peer) client ∙ is.peer;
    sent = λ inside. is.sent (ap (λ (c : ClientState). is_outside c.stage) (sym client) ∙ inside) ∙ ap (λ (c : ClientState). items_said c ++ move_items start.client.peer more) (sym client);
    counted = λ inside. subst (λ (c : ClientState). Counts c.stage (moves ++ more) (told ++ told_in start.client.peer acted)) (sym client) (is.counted (ap (λ (c : ClientState). is_outside c.stage) (sym client) ∙ inside));
    last = λ inside. side ∙ is.last (ap (λ (c : ClientState). is_outside c.stage) (sym client) ∙ inside);
  }

  stays : (a b : StepSoFar) → slice_get b.ixl.known_points place ≡ slice_get a.ixl.known_points place → of_node (Point place) b.calls ≡ of_node (Point place) a.calls → of_node (Point place) b.acted ≡ of_node (Point place) a.acted → SoFar a → SoFar b
  stays a b same calls acted is = record {
    known_point = is.known_point;
    more = is.more;
    there = same ∙ is.there;
    fine = subst (λ list. Fine list (of_node (Point place) b.acted) is.known_point is.more) (sym calls) (subst (λ list. Fine (of_node (Point place) a.calls) list is.known_point is.more) (sym acted) is.fine);
  }

  -- what is done at another node
  stays_elsewhere : (node : Node) (done : client.ClientSoFar) (a b : StepSoFar) → is_node (Point place) node ≡ false → slice_get b.ixl.known_points place ≡ slice_get a.ixl.known_points place →
      b.calls ≡ (noted node done a).calls → b.acted ≡ (noted node done a).acted → SoFar a → SoFar b
  stays_elsewhere node done a b apart same calls acted is =
      stays a b same (ap (of_node (Point place)) calls ∙ noted_elsewhere (Point place) node a.calls done.calls apart) (ap (of_node (Point place)) acted ∙ noted_elsewhere (Point place) node a.acted done.acted apart) is

  -- ---- a move

  move_fine : (now : ℕ) (side : Side) (part : StepSoFar) (known_point : KnownPointState) (moved : Places) (calls : List LinkCall) (acted : List (List ℕ)) (more : List Side) →
      SaysCommand (telegram_of (commands.Move side) (begun known_point.client part.outbox)) (begun known_point.client part.outbox) (commanding now (commands.Move side) (begun known_point.client part.outbox)) →
      is_available known_point.client.stage ≡ true → Fine calls acted known_point more →
      Fine (calls ++ (commanding now (commands.Move side) (begun known_point.client part.outbox)).calls) (acted ++ (commanding now (commands.Move side) (begun known_point.client part.outbox)).acted)
      (known_point_after known_point.side moved (commanding now (commands.Move side) (begun known_point.client part.outbox)).client) (more ++ side ∷ [])
  move_fine now side part known_point moved calls acted more says available is = alike (calls ++ done.calls) (acted ++ done.acted) plain _ (more ++ side ∷ []) same_client refl plainly where
    done : client.ClientSoFar
    done = commanding now (commands.Move side) (begun known_point.client part.outbox)

    plain : KnownPointState
    plain = record { client = done.client; side = (known_point_after known_point.side moved done.client).side; moved = moved }

    same_client : (known_point_after known_point.side moved done.client).client ≡ done.client
    same_client = known_point_client known_point.side moved done.client

    leaves : Commanded (commands.Move side) (begun known_point.client part.outbox) done
    leaves = commanding_leaves now (commands.Move side) (begun known_point.client part.outbox)

    completed : known_point.client.stage ≡ stage.Completed
    completed = available_completed known_point.client.stage available

    was_inside : is_outside known_point.client.stage ≡ false
    was_inside = ap is_outside completed

    none_acted : acted ++ done.acted ≡ acted
    none_acted = ap (λ list. acted ++ list) leaves.acted ∙ append-nil acted

    item : List ℕ
    item = writing (telegram_to known_point.client.peer (message_of (commands.Move side)))

    one_sent : items_sent (calls ++ done.calls) ≡ items_sent calls ++ item ∷ []
    one_sent = sent_joined calls done.calls ∙ ap (λ items. items_sent calls ++ items) (ap items_sent says.made ∙ says.sent)

    one_more : move_items start.client.peer more ++ item ∷ [] ≡ move_items start.client.peer (more ++ side ∷ [])
    one_more = ap (λ peer. move_items start.client.peer more ++ writing (telegram_to peer (message_of (commands.Move side))) ∷ []) is.peer ∙ sym (moves_joined start.client.peer more (side ∷ []))

    reported : length (told ++ told_in start.client.peer acted) ≡ length (moves ++ more) + 1
    reported = subst (λ s. Counts s (moves ++ more) (told ++ told_in start.client.peer acted)) completed (is.counted was_inside)

    counted : length (told ++ told_in start.client.peer acted) ≡ length (moves ++ (more ++ side ∷ []))
    counted = omega (arith, reported, length-append moves more, length-append more (side ∷ []), length-append moves (more ++ side ∷ []))

    stage_is : is_outside done.client.stage ≡ false → done.client.stage ≡ stage.AwaitsReport
    stage_is inside = leaves.stage inside ∙ ap (stage_after_command (commands.Move side)) completed

    plainly : Fine (calls ++ done.calls) (acted ++ done.acted) plain (more ++ side ∷ [])
    plainly = record {
      peer = leaves.peer ∙ is.peer;
      sent = λ inside. ap (λ items. items_said start.client ++ items) one_sent ∙ sym (append_assoc (items_said start.client) (items_sent calls) (item ∷ []))
          ∙ ap (λ items. items ++ item ∷ []) (is.sent was_inside) ∙ append_assoc (items_said known_point.client) (move_items start.client.peer more) (item ∷ [])
          ∙ ap (λ items. items_said known_point.client ++ items) one_more ∙ ap (λ items. items ++ move_items start.client.peer (more ++ side ∷ [])) (sym (says.said inside));
      counted = λ inside. subst (λ s. Counts s (moves ++ (more ++ side ∷ [])) (told ++ told_in start.client.peer (acted ++ done.acted))) (sym (stage_is inside))
          (ap (λ list. length (told ++ told_in start.client.peer list)) none_acted ∙ counted);
      last = λ inside. known_point_side known_point.side moved done.client inside ∙ is.last was_inside ∙ ap (λ list. last_told None (told ++ told_in start.client.peer list)) (sym none_acted);
    }

  move_here : (now : ℕ) (side : Side) (part : StepSoFar) → Says now → is_point_available part.ixl place ≡ true → SoFar part → SoFar (giving_move now place side part)
  unfolding giving_move at moved_by
  move_here now side part says available is = by_known_point (slice_get part.ixl.known_points place) refl where
    by_known_point : (one : Option KnownPointState) → slice_get part.ixl.known_points place ≡ one → SoFar (with_one one (moved_by now place side) part)
    by_known_point None none = absurd (none_is (sym none ∙ is.there))
    by_known_point (Some known_point) there =
        let same : is.known_point ≡ known_point = some_same (sym is.there ∙ there)
        in let done = commanding now (commands.Move side) (begun known_point.client part.outbox)
        in record {
          known_point = known_point_after known_point.side (all_below (length part.ixl.routes)) done.client;
          more = is.more ++ side ∷ [];
          there = becomes_there place (known_point_after known_point.side (all_below (length part.ixl.routes)) done.client) part.ixl.known_points known_point there;
          fine = subst (λ list. Fine list (of_node (Point place) (noted (Point place) done part).acted) (known_point_after known_point.side (all_below (length part.ixl.routes)) done.client) (is.more ++ side ∷ [])) (sym (noted_here (Point place) part.calls done.calls))
              (subst (λ list. Fine (of_node (Point place) part.calls ++ done.calls) list (known_point_after known_point.side (all_below (length part.ixl.routes)) done.client) (is.more ++ side ∷ [])) (sym (noted_here (Point place) part.acted done.acted))
              (move_fine now side part known_point (all_below (length part.ixl.routes)) (of_node (Point place) part.calls) (of_node (Point place) part.acted) is.more (says (commands.Move side) (begun known_point.client part.outbox))
              (sym (ap (passes (λ (s : KnownPointState). is_available s.client.stage)) there) ∙ available) (subst (λ s. Fine (of_node (Point place) part.calls) (of_node (Point place) part.acted) s is.more) same is.fine)));
        }

  giving_move_stays : (now point : ℕ) (side : Side) (part : StepSoFar) → Says now → is_point_available part.ixl point ≡ true → SoFar part → SoFar (giving_move now point side part)
  unfolding giving_move
  giving_move_stays now point side part says available is = by_place (point == place) refl where
    by_place : (b : Bool) → point == place ≡ b → SoFar (giving_move now point side part)
    by_place true same = subst (λ p. is_point_available part.ixl p ≡ true → SoFar (giving_move now p side part)) (sym (eqb-true point place same)) (λ there. move_here now side part says there is) available
    by_place false apart = with_one_holds SoFar (slice_get part.ixl.known_points point) _ part (λ known_point there.
        stays_elsewhere (Point point) (commanding now (commands.Move side) (begun known_point.client part.outbox)) part _ apart
        (changed_elsewhere _ point place part.ixl.known_points (λ same. false≢true (sym apart ∙ eq-eqb point place (sym same)))) refl refl is) is

  -- ---- the rules

  aspect_stays : (now signal : ℕ) (aspect : Aspect) (part : StepSoFar) → SoFar part → SoFar (giving_aspect now signal aspect part)
  unfolding giving_aspect
  aspect_stays now signal aspect part is = with_one_holds SoFar (slice_get part.ixl.known_signals signal) _ part (λ known_signal there.
      stays_elsewhere (Signal signal) (commanding now (commands.Indicate aspect) (begun known_signal.client part.outbox)) part _ refl refl refl refl is) is

  route_stays : (number : ℕ) (change : RouteState → RouteState) (part : StepSoFar) → SoFar part → SoFar (with_route number change part)
  route_stays number change part is = stays part (with_route number change part) refl refl refl is

  pub ruled_stays : (now : ℕ) (table : Table) (part : StepSoFar) → Says now → SoFar part → SoFar (ruled now table part)
  ruled_stays now table part says is = ruled_holds SoFar now (record {
    route = route_stays;
    aspect = aspect_stays now;
    move = λ point side before available is. giving_move_stays now point side before says available is;
  }) table part is

  pub seen_stays : (table : Table) (part : StepSoFar) → SoFar part → SoFar (over (watching table) (count table) part)
  seen_stays table part is = seen_holds SoFar route_stays table part is

  -- ---- ticks

  tick_fine : (now : ℕ) (part : StepSoFar) (known_point : KnownPointState) (calls : List LinkCall) (acted : List (List ℕ)) (more : List Side) → SaysNothing (begun known_point.client part.outbox) (ticking now (begun known_point.client part.outbox)) →
      Fine calls acted known_point more →
      Fine (calls ++ (ticking now (begun known_point.client part.outbox)).calls) (acted ++ (ticking now (begun known_point.client part.outbox)).acted)
      (known_point_after known_point.side known_point.moved (ticking now (begun known_point.client part.outbox)).client) more
  tick_fine now part known_point calls acted more says is = alike (calls ++ done.calls) (acted ++ done.acted) plain _ more (known_point_client known_point.side known_point.moved done.client) refl plainly where
    done : client.ClientSoFar
    done = ticking now (begun known_point.client part.outbox)

    plain : KnownPointState
    plain = record { client = done.client; side = (known_point_after known_point.side known_point.moved done.client).side; moved = known_point.moved }

    leaves : Ticked (begun known_point.client part.outbox) done
    leaves = ticking_leaves now (begun known_point.client part.outbox)

    was_inside : is_outside done.client.stage ≡ false → is_outside known_point.client.stage ≡ false
    was_inside inside = ap is_outside (sym (leaves.stage inside)) ∙ inside

    none_acted : acted ++ done.acted ≡ acted
    none_acted = ap (λ list. acted ++ list) leaves.acted ∙ append-nil acted

    none_sent : items_sent (calls ++ done.calls) ≡ items_sent calls
    none_sent = sent_joined calls done.calls ∙ ap (λ items. items_sent calls ++ items) (ap items_sent says.made ∙ says.sent) ∙ append-nil (items_sent calls)

    plainly : Fine (calls ++ done.calls) (acted ++ done.acted) plain more
    plainly = record {
      peer = leaves.peer ∙ is.peer;
      sent = λ inside. ap (λ items. items_said start.client ++ items) none_sent ∙ is.sent (was_inside inside) ∙ ap (λ items. items ++ move_items start.client.peer more) (sym (says.said inside));
      counted = λ inside. subst (λ s. Counts s (moves ++ more) (told ++ told_in start.client.peer (acted ++ done.acted))) (sym (leaves.stage inside))
          (subst (λ list. Counts known_point.client.stage (moves ++ more) (told ++ told_in start.client.peer list)) (sym none_acted) (is.counted (was_inside inside)));
      last = λ inside. known_point_side known_point.side known_point.moved done.client inside ∙ is.last (was_inside inside) ∙ ap (λ list. last_told None (told ++ told_in start.client.peer list)) (sym none_acted);
    }

  tick_here : (now : ℕ) (part : StepSoFar) → SaysNoMore now → SoFar part → SoFar (known_point_ticking now place part)
  unfolding known_point_ticking ticked_by
  tick_here now part says is = by_known_point (slice_get part.ixl.known_points place) refl where
    by_known_point : (one : Option KnownPointState) → slice_get part.ixl.known_points place ≡ one → SoFar (with_one one (ticked_by now place) part)
    by_known_point None none = absurd (none_is (sym none ∙ is.there))
    by_known_point (Some known_point) there =
        let same : is.known_point ≡ known_point = some_same (sym is.there ∙ there)
        in let done = ticking now (begun known_point.client part.outbox)
        in record {
          known_point = known_point_after known_point.side known_point.moved done.client;
          more = is.more;
          there = becomes_there place (known_point_after known_point.side known_point.moved done.client) part.ixl.known_points known_point there;
          fine = subst (λ list. Fine list (of_node (Point place) (noted (Point place) done part).acted) (known_point_after known_point.side known_point.moved done.client) is.more) (sym (noted_here (Point place) part.calls done.calls))
              (subst (λ list. Fine (of_node (Point place) part.calls ++ done.calls) list (known_point_after known_point.side known_point.moved done.client) is.more) (sym (noted_here (Point place) part.acted done.acted))
              (tick_fine now part known_point (of_node (Point place) part.calls) (of_node (Point place) part.acted) is.more (says (begun known_point.client part.outbox))
              (subst (λ s. Fine (of_node (Point place) part.calls) (of_node (Point place) part.acted) s is.more) same is.fine)));
        }

  known_point_tick_stays : (now : ℕ) → SaysNoMore now → (point : ℕ) (part : StepSoFar) → SoFar part → SoFar (known_point_ticking now point part)
  unfolding known_point_ticking
  known_point_tick_stays now says point part is = by_place (point == place) refl where
    by_place : (b : Bool) → point == place ≡ b → SoFar (known_point_ticking now point part)
    by_place true same = subst (λ p. SoFar (known_point_ticking now p part)) (sym (eqb-true point place same)) (tick_here now part says is)
    by_place false apart = with_one_holds SoFar (slice_get part.ixl.known_points point) _ part (λ known_point there.
        stays_elsewhere (Point point) (ticking now (begun known_point.client part.outbox)) part _ apart
        (changed_elsewhere _ point place part.ixl.known_points (λ same. false≢true (sym apart ∙ eq-eqb point place (sym same)))) refl refl is) is

  known_signal_tick_stays : (now : ℕ) (signal : ℕ) (part : StepSoFar) → SoFar part → SoFar (known_signal_ticking now signal part)
  unfolding known_signal_ticking
  known_signal_tick_stays now signal part is = with_one_holds SoFar (slice_get part.ixl.known_signals signal) _ part (λ known_signal there.
      stays_elsewhere (Signal signal) (ticking now (begun known_signal.client part.outbox)) part _ refl refl refl refl is) is

  detector_tick_stays : (now : ℕ) (other : ℕ) (part : StepSoFar) → SoFar part → SoFar (detector_ticking now other part)
  unfolding detector_ticking
  detector_tick_stays now other part is = with_one_holds SoFar (slice_get part.ixl.detectors other) _ part (λ detector there.
      stays_elsewhere (Detector other) (ticking now (begun detector.client part.outbox)) part _ refl refl refl refl is) is

  pub ticked_stays : (now : ℕ) (input : Input) (part : StepSoFar) → SaysNoMore now → SoFar part → SoFar (ticked now input part)
  unfolding ticked
  ticked_stays now Tick part says is =
      over_holds SoFar (detector_ticking now) (detector_tick_stays now) (length part.ixl.detectors) _
      (over_holds SoFar (known_point_ticking now) (known_point_tick_stays now says) (length part.ixl.known_points) _
      (over_holds SoFar (known_signal_ticking now) (known_signal_tick_stays now) (length part.ixl.known_signals) part is))
  ticked_stays now (Datagram bytes) part says is = is
  ticked_stays now (Commands command) part says is = is

  -- ---- what comes

  -- nothing was done at the point yet
  pub record Begins (part : StepSoFar) : Type 0 where
    pub there : slice_get part.ixl.known_points place ≡ Some start
    pub of : IsOfPoint start.client.peer
    pub calls : part.calls ≡ []
    pub acted : part.acted ≡ []
    pub counts : Counts start.client.stage moves told
    pub side : start.side ≡ last_told None told

  first_fine : (part : StepSoFar) → Begins part → Fine (of_node (Point place) part.calls) (of_node (Point place) part.acted) start []
  unfolding of_node items_sent told_by_all
  first_fine part begins =
      subst (λ list. Fine (of_node (Point place) list) (of_node (Point place) part.acted) start []) (sym begins.calls) (subst (λ list. Fine [] (of_node (Point place) list) start []) (sym begins.acted) (record {
        peer = refl;
        sent = λ inside. refl;
        counted = λ inside. subst (λ list. Counts start.client.stage list (told ++ [])) (sym (append-nil moves)) (subst (Counts start.client.stage moves) (sym (append-nil told)) begins.counts);
        last = λ inside. begins.side ∙ ap (last_told None) (sym (append-nil told));
      }))

  at_first : (part : StepSoFar) → Begins part → SoFar part
  at_first part begins = record { known_point = start; more = []; there = begins.there; fine = first_fine part begins }

  hear_here : (now : ℕ) (bytes : List ℕ) (part : StepSoFar) → Hears now → Begins part → SoFar (known_point_hearing now bytes place part)
  unfolding known_point_hearing of_node heard_by
  hear_here now bytes part hears begins = by_known_point (slice_get part.ixl.known_points place) refl where
    done : client.ClientSoFar
    done = hearing now bytes (begun start.client part.outbox)

    says : SaysInOrder (begun start.client part.outbox) done
    says = (hears bytes (begun start.client part.outbox)).0

    acts : ActsOn now bytes (begun start.client part.outbox) done
    acts = (hears bytes (begun start.client part.outbox)).1

    heard : HearsBehind (begun start.client part.outbox) done
    heard = hearing_hears now bytes (begun start.client part.outbox)

    -- the states that were heard are those that the items tell
    states : states_of heard.new ≡ told_in start.client.peer done.acted
    states = ap states_of (sym heard.heard ∙ acts.heard) ∙ ap (told_in start.client.peer) (sym acts.acted)

    behind : Places → KnownPointState
    behind moved = record { client = done.client; side = (known_point_after (side_heard done.heard start.side) moved done.client).side; moved = moved }

    heard_side : side_heard done.heard start.side ≡ last_told None (told ++ told_in start.client.peer done.acted)
    heard_side = heard_last start.side done.heard ∙ ap (λ list. last_told start.side (states_of list)) heard.heard ∙ ap (last_told start.side) states
        ∙ ap (λ side. last_told side (told_in start.client.peer done.acted)) begins.side ∙ sym (last_joined None told (told_in start.client.peer done.acted))

    plainly : (moved : Places) → Fine done.calls done.acted (behind moved) []
    plainly moved = record {
      peer = heard.peer;
      sent = λ inside. ap (λ list. items_said start.client ++ items_sent list) says.made ∙ sym (says.said inside) ∙ sym (append-nil (items_said done.client));
      counted = λ inside. subst (λ list. Counts done.client.stage list (told ++ told_in start.client.peer done.acted)) (sym (append-nil moves))
          (subst (λ list. Counts done.client.stage moves (told ++ list)) states (heard.counts inside begins.of moves told begins.counts));
      last = λ inside. known_point_side (side_heard done.heard start.side) moved done.client inside ∙ heard_side;
    }

    come : (moved : Places) → SoFar (with_known_point place (known_point_after (side_heard done.heard start.side) moved done.client) (noted (Point place) done part))
    come moved = record {
      known_point = known_point_after (side_heard done.heard start.side) moved done.client;
      more = [];
      there = becomes_there place (known_point_after (side_heard done.heard start.side) moved done.client) part.ixl.known_points start begins.there;
      fine = subst (λ list. Fine list (of_node (Point place) (noted (Point place) done part).acted) (known_point_after (side_heard done.heard start.side) moved done.client) [])
          (sym (noted_here (Point place) part.calls done.calls ∙ ap (λ list. of_node (Point place) list ++ done.calls) begins.calls))
          (subst (λ list. Fine done.calls list (known_point_after (side_heard done.heard start.side) moved done.client) [])
          (sym (noted_here (Point place) part.acted done.acted ∙ ap (λ list. of_node (Point place) list ++ done.acted) begins.acted))
          (alike done.calls done.acted (behind moved) _ [] (known_point_client (side_heard done.heard start.side) moved done.client) refl (plainly moved)));
    }

    by_known_point : (one : Option KnownPointState) → slice_get part.ixl.known_points place ≡ one → SoFar (with_one one (heard_by now bytes place) part)
    by_known_point None none = absurd (none_is (sym none ∙ begins.there))
    by_known_point (Some known_point) there = subst (λ (s : KnownPointState). SoFar (with_one (Some s) (heard_by now bytes place) part)) (some_same (sym begins.there ∙ there)) (come start.moved)

  node_stays : (now : ℕ) (table : Table) (bytes : List ℕ) (part : StepSoFar) → Hears now → Begins part → (node : Node) → SoFar (node_hearing now table bytes node part)
  unfolding node_hearing known_signal_hearing known_point_hearing detector_hearing
  node_stays now table bytes part hears begins (Signal signal) = with_one_holds SoFar (slice_get part.ixl.known_signals signal) _ part (λ known_signal there.
      stays_elsewhere (Signal signal) (hearing now bytes (begun known_signal.client part.outbox)) part _ refl refl refl refl (at_first part begins)) (at_first part begins)
  node_stays now table bytes part hears begins (Detector other) = with_one_holds SoFar (slice_get table.detectors other) _ part (λ sections listed.
      with_one_holds SoFar (slice_get part.ixl.detectors other) _ part (λ detector there.
      along_holds SoFar (looking table) (looking_holds SoFar route_stays table) (looks sections detector (hearing now bytes (begun detector.client part.outbox)).heard (hearing now bytes (begun detector.client part.outbox)).client) _
      (stays_elsewhere (Detector other) (hearing now bytes (begun detector.client part.outbox)) part _ refl refl refl refl (at_first part begins))) (at_first part begins)) (at_first part begins)
  node_stays now table bytes part hears begins (Point point) = by_place (point == place) refl where
    by_place : (b : Bool) → point == place ≡ b → SoFar (known_point_hearing now bytes point part)
    by_place true same = subst (λ p. SoFar (known_point_hearing now bytes p part)) (sym (eqb-true point place same)) (hear_here now bytes part hears begins)
    by_place false apart = with_one_holds SoFar (slice_get part.ixl.known_points point) _ part (λ known_point there.
        stays_elsewhere (Point point) (hearing now bytes (begun known_point.client part.outbox)) part _ apart
        (changed_elsewhere _ point place part.ixl.known_points (λ same. false≢true (sym apart ∙ eq-eqb point place (sym same)))) refl refl (at_first part begins)) (at_first part begins)

  command_stays : (now : ℕ) (cause : Option Refusal) (command : RouteCommand) (part : StepSoFar) → Begins part → SoFar (record part { ixl = commanded_by now cause command part.ixl })
  unfolding obeyed
  command_stays now (Some refused) command part begins = at_first part begins
  command_stays now None (given_commands.Cancel route) part begins = stays part _ refl refl refl (at_first part begins)
  command_stays now None given_commands.Resume part begins = stays part _ refl refl refl (at_first part begins)
  command_stays now None (given_commands.Release route) part begins = stays part _ refl refl refl (at_first part begins)
  command_stays now None (given_commands.Move point side) part begins = at_first part begins
  command_stays now None (given_commands.Close named) part begins = stays part _ refl refl refl (at_first part begins)
  command_stays now None (given_commands.Open named) part begins = stays part _ refl refl refl (at_first part begins)
  command_stays now None (given_commands.Request route) part begins = record {
    known_point = unmoved_for route.0 start;
    more = [];
    there = mapped (unmoved_for route.0) place part.ixl.known_points start begins.there;
    fine = alike (of_node (Point place) part.calls) (of_node (Point place) part.acted) start (unmoved_for route.0 start) [] refl refl (first_fine part begins);
  }

  -- a move by command is given to a point that is available
  moved_stays : (now : ℕ) (table : Table) (cause : Option Refusal) (command : RouteCommand) (part : StepSoFar) → Says now → refusal now table command part.ixl ≡ cause →
      SoFar (record part { ixl = commanded_by now cause command part.ixl }) → SoFar (moved_at_once now cause command (record part { ixl = commanded_by now cause command part.ixl }))
  unfolding moved_at_once obeyed
  moved_stays now table (Some refused) command part says is so_far = so_far
  moved_stays now table None (given_commands.Move point side) part says is so_far = giving_move_stays now point.0 side part says (moved_available now table point side part.ixl is) so_far
  moved_stays now table None (given_commands.Request route) part says is so_far = so_far
  moved_stays now table None (given_commands.Cancel route) part says is so_far = so_far
  moved_stays now table None given_commands.Resume part says is so_far = so_far
  moved_stays now table None (given_commands.Release route) part says is so_far = so_far
  moved_stays now table None (given_commands.Close named) part says is so_far = so_far
  moved_stays now table None (given_commands.Open named) part says is so_far = so_far

  pub given_stays : (now : ℕ) (table : Table) (key : Key) (input : Input) (part : StepSoFar) → Says now → Hears now → Begins part → SoFar (given now table key input part)
  unfolding given
  given_stays now table key Tick part says hears begins = at_first part begins
  given_stays now table key (Commands command) part says hears begins =
      let cause = refusal now table command part.ixl
      in moved_stays now table cause command part says refl (command_stays now cause command part begins)
  given_stays now table key (Datagram bytes) part says hears begins = with_one_holds SoFar (addressed (reading key bytes) part.ixl) (node_hearing now table bytes) part (λ node there. node_stays now table bytes part hears begins node) (at_first part begins)
