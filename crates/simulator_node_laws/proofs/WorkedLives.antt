-- The runs that refute wrong definitions, computed.
use Rattle.std.proofs.Common.{◌≡◌, map, Bool, true, false, List, [], ◌∷◌, Option, Some, None, is_none, ◌++◌, refl, ap, ◌∙◌, if◌then◌else◌}
use Rattle.simulator_spec.specs.layout.declared.port.Port.{Port}
use Rattle.simulator_spec.specs.simulator_event.declared.event.Event.{Event}
use Rattle.simulator_spec.specs.simulator_event.refused.Refused.{Refused}
use Rattle.simulator_spec.specs.sci_telegram.declared.message.Aspect.TheVariants as aspects
use Rattle.simulator_spec.specs.signal_ctl.Signal.{signal_behaviour}
use Rattle.simulator_spec.specs.Seen.{shown_by}
use Rattle.simulator_spec.specs.Run.{CanHappen, after_all}
use Rattle.simulator_spec.specs.State.{WorldState}
use Rattle.md4.specs.Md4.{padding, block_words, sequence, after_block, after_blocks, digest}
use Rattle.simulator_spec.specs.rasta_pdu.SafetyCode.{code, intact}
use Rattle.simulator_spec.specs.rasta_pdu.Spelling.{payload, fields, text, writing as pdu_writing}
use Rattle.simulator_spec.specs.rasta_pdu.PduRead.{text_of, opening_of, disconnection_of, nothing_of, item_of, items_to_end, items_of, body_of, pdu_of as pdu_read, reading as pdu_reading}
use Rattle.simulator_spec.specs.sci_telegram.Telegrams.{writing as telegram_writing}
use Rattle.simulator_spec.specs.sci_telegram.TelegramRead.{kind_at, name_spelled, aspect_in, message_in, telegram_in, reading as telegram_reading}
use Rattle.simulator_spec.specs.rasta_core.Calls.{created, opens, opening, ticking as link_ticking, closing_by, sending_item, acceptance, answer_to_send, hearing_bytes, receiving}
use Rattle.simulator_spec.specs.rasta_core.Clock.{settled, deadline, alive_until, quiet_until, state_at, is_up_at}
use Rattle.simulator_spec.specs.rasta_core.PdusHandedOut.{header_of, pdu_of, sending, telling, limited, entered, beating as link_beating, giving, closing}
use Rattle.simulator_spec.specs.rasta_core.Establishment.{beginning as link_beginning, requesting, meeting, judging, granting, joining}
use Rattle.simulator_spec.specs.rasta_core.Receipt.{ahead, behind, age, still_waiting, taking, repeated, retagged, repeating, answering as link_answering, missing, handing, bringing, in_turn, admitting, testing, connected, asking, resting, by_state, hearing as link_hearing}
use Rattle.simulator_spec.specs.rasta_core.Outbox.{posted}
use Rattle.simulator_spec.specs.object_host.Host.{fallen, keeping, risen}
use Rattle.simulator_spec.specs.object_host.Hosted.{new_host}
use Rattle.simulator_spec.specs.object_host.Step.{posting, posting_all, violating, answering, initial_status, initialising, commanding, following, acting, acting_all, received, hearing, paying, beginning, given, beating, host_step}
use Rattle.simulator_spec.specs.bit_row.Bits.{places_below, places, number_below, number}
use Rattle.simulator_spec.specs.ixl_spec.Table.{at}
use Rattle.simulator_spec.specs.ixl_client.Client.{new_client}
use Rattle.simulator_spec.specs.ixl_client.ClientSoFar.{calling}
use Rattle.simulator_spec.specs.ixl_client.Meaning.{meaning}
use Rattle.simulator_spec.specs.ixl_client.Step.{fallen as client_fallen, posting as client_posting, rising, following as client_following, acting as client_acting, acting_all as client_acting_all, clocked, hearing as client_hearing, commanding as client_commanding, ticking as client_ticking}
use Rattle.simulator_spec.specs.ixl_spec.Commands.{locking_refusal, moved_at_once, refusal as refused, obeyed}
use Rattle.simulator_spec.specs.ixl_spec.Rules.{withdrawing, ending_authority, freeing_next, freeing_by_passage, freeing_by_cancel, moving_one, moving, proceeding}
use Rattle.simulator_spec.specs.ixl_spec.Step.{all_clocked, known_signal_hearing, known_point_hearing, looking_by, detector_hearing, watching, node_of, node_hearing, given as ixl_given, known_signal_ticking, known_point_ticking, detector_ticking, ticked, stepped}
use Rattle.simulator_spec.specs.ixl_spec.StepSoFar.{known_signal_after, giving_aspect, known_point_after, giving_move, detector_after, at_route}
use Rattle.simulator_spec.specs.ixl_spec.View.{is_clear, is_occupied, is_known, is_at_known_stop}
use Rattle.simulator_spec.specs.First.{new_ixl, world_at}
use Rattle.simulator_spec.specs.Happens.{detector_stepped, happens, interlocking_stepped, passed, point_stepped, signal_stepped, stepped_at}
use Rattle.simulator_spec.specs.Refusals.{refusal, refusal_of_time}
use Rattle.simulator_spec.specs.Controllers.{controller_after, controller_anew, controller_later, sent_by_controller}
use Rattle.simulator_spec.specs.Interlocking.{held_of, sending_all, sending_one}
use Rattle.simulator_node_laws.specs.Lives.{first_life, host_after, life_in, signal_at}
use Rattle.simulator_node_laws.specs.Said.{lamp_line, lines_after}
use Rattle.simulator_node_laws.specs.Worked.{AnotherClock, Happens, KeepsWhatCame, LineNotTold, Move, NoFrozenRows, OldContacts, TellsNobody, came_to_it, event_of, events_of, lines_of_ticks, short_begun, short_table, shown_by_line, signal_begun, small, the_pair, to_another, to_authority, to_stop, with_another, with_authority, with_stop}
use Rattle.simulator_node_laws.proofs.WorkedRequest.{IsAccepted, another_behind, authorised, events_on, played, played_on, requested, resumed, stop_behind, the_request, to_resume}

-- ---- small runs

pub clock : (at : Port) → AnotherClock at
unfolding world_at happens passed refusal refusal_of_time controller_later
clock at = record { allowed = (refl, tt); is_so = refl; right = refl; wrong = refl }

pub nobody : (at : Port) → TellsNobody at
unfolding world_at happens refusal detector_stepped stepped_at controller_after sent_by_controller new_host keeping host_step beginning given fallen paying beating settled
nobody at = record { allowed = refl; is_so = refl; right = refl; wrong = refl }

pub old : (at : Port) → OldContacts at
unfolding world_at happens refusal detector_stepped stepped_at controller_after controller_anew sent_by_controller new_host keeping host_step beginning given fallen paying beating settled host_after
old at = record { allowed = (refl, (refl, tt)); is_so = refl; right = refl; wrong = refl }

pub came : (at : Port) → KeepsWhatCame at
unfolding world_at happens passed refusal refusal_of_time controller_later signal_stepped stepped_at controller_after controller_anew
came at = record { allowed = (refl, (refl, (refl, tt))); reads = refl; right = refl; wrong = refl }

-- ---- runs of moves

no_refusal : (why : Option Refused) → is_none why ≡ true → why ≡ None
no_refusal None is = refl
no_refusal (Some refused) is = absurd (none is) where
  none : false ≡ true → ⊥
  none e = cc (e)

-- its events can happen
all_can : (at : Port) (moves : List Move) (world : WorldState) → CanHappen (small at) short_table (events_of at moves world) world
all_can at [] world = tt
all_can at (first ∷ others) world =
    by_test (is_none (refusal (small at) (event_of first world) world)) refl (all_can at others (happens (small at) short_table (event_of first world) world)) (all_can at others world)
  where
    by_test : (test : Bool) → is_none (refusal (small at) (event_of first world) world) ≡ test
        → CanHappen (small at) short_table (events_of at others (happens (small at) short_table (event_of first world) world)) (happens (small at) short_table (event_of first world) world)
        → CanHappen (small at) short_table (events_of at others world) world
        → CanHappen (small at) short_table (if test then event_of first world ∷ events_of at others (happens (small at) short_table (event_of first world) world) else events_of at others world) world
    by_test true is made_so left_out = (no_refusal (refusal (small at) (event_of first world) world) is, made_so)
    by_test false is made_so left_out = left_out

-- and lead where the moves lead
leads : (at : Port) (moves : List Move) (world : WorldState) → after_all (small at) short_table (events_of at moves world) world ≡ played at moves world
leads at [] world = refl
leads at (first ∷ others) world =
    by_test (is_none (refusal (small at) (event_of first world) world)) (leads at others (happens (small at) short_table (event_of first world) world)) (leads at others world)
  where
    by_test : (test : Bool)
        → after_all (small at) short_table (events_of at others (happens (small at) short_table (event_of first world) world)) (happens (small at) short_table (event_of first world) world)
        ≡ played at others (happens (small at) short_table (event_of first world) world)
        → after_all (small at) short_table (events_of at others world) world ≡ played at others world
        → after_all (small at) short_table (if test then event_of first world ∷ events_of at others (happens (small at) short_table (event_of first world) world) else events_of at others world) world
        ≡ played at others (if test then happens (small at) short_table (event_of first world) world else world)
    by_test true made_so left_out = made_so
    by_test false made_so left_out = left_out

-- ---- the runs, computed behind the request

-- the request is accepted
is_accepted : (at : Port) → IsAccepted at
unfolding resumed padding block_words sequence after_block after_blocks digest code intact payload fields text pdu_writing text_of opening_of disconnection_of nothing_of item_of items_to_end items_of body_of pdu_read pdu_reading telegram_writing kind_at name_spelled aspect_in message_in telegram_in telegram_reading created opens opening link_ticking closing_by sending_item acceptance answer_to_send hearing_bytes receiving settled deadline alive_until quiet_until state_at is_up_at header_of pdu_of sending telling limited entered link_beating giving closing link_beginning requesting meeting judging granting joining ahead behind age still_waiting taking repeated retagged repeating link_answering missing handing bringing in_turn admitting testing connected asking resting by_state link_hearing posted fallen keeping risen new_host posting posting_all violating answering initial_status initialising commanding following acting acting_all received hearing paying beginning given beating host_step places_below places number_below number at new_client calling meaning client_fallen client_posting rising client_following client_acting client_acting_all clocked client_hearing client_commanding client_ticking locking_refusal refused obeyed moved_at_once withdrawing ending_authority freeing_next freeing_by_passage freeing_by_cancel moving_one moving proceeding all_clocked known_signal_hearing known_point_hearing looking_by detector_hearing watching node_of node_hearing ixl_given known_signal_ticking known_point_ticking detector_ticking ticked stepped known_signal_after giving_aspect known_point_after giving_move detector_after at_route is_clear is_occupied is_known is_at_known_stop new_ixl world_at detector_stepped happens interlocking_stepped passed point_stepped signal_stepped stepped_at refusal refusal_of_time controller_after controller_anew controller_later sent_by_controller held_of sending_all sending_one host_after
is_accepted at = record { none_closed = refl; passes = refl }

abbrev after_request : List Move → List Move
after_request behind = to_resume ++ Happens the_request ∷ behind

authority_moves : to_authority ≡ after_request []
authority_moves = refl

another_moves : to_another ≡ after_request another_behind
another_moves = refl

stop_moves : to_stop ≡ after_request stop_behind
stop_moves = refl

authority_so : (at : Port) → played at to_authority (short_begun at) ≡ authorised at
authority_so at = ap (λ (moves : List Move). played at moves (short_begun at)) authority_moves ∙ played_on at [] (is_accepted at)

another_so : (at : Port) → played at to_another (short_begun at) ≡ played at another_behind (authorised at)
another_so at = ap (λ (moves : List Move). played at moves (short_begun at)) another_moves ∙ played_on at another_behind (is_accepted at)

stop_so : (at : Port) → played at to_stop (short_begun at) ≡ played at stop_behind (authorised at)
stop_so at = ap (λ (moves : List Move). played at moves (short_begun at)) stop_moves ∙ played_on at stop_behind (is_accepted at)

-- the events up to the request, the request, and those behind it
abbrev stop_events : Port → List Event
stop_events at = events_of at to_resume (short_begun at) ++ the_request ∷ events_of at stop_behind (authorised at)

with_stop_so : (at : Port) → with_stop at ≡ stop_events at
unfolding with_stop
with_stop_so at = ap (λ (moves : List Move). events_of at moves (short_begun at)) stop_moves ∙ events_on at stop_behind (is_accepted at)

one_there : (at : Port) → held_of short_table (authorised at).interlocking (authorised at).frozen ≡ the_pair ∷ []
unfolding resumed requested authorised padding block_words sequence after_block after_blocks digest code intact payload fields text pdu_writing text_of opening_of disconnection_of nothing_of item_of items_to_end items_of body_of pdu_read pdu_reading telegram_writing kind_at name_spelled aspect_in message_in telegram_in telegram_reading created opens opening link_ticking closing_by sending_item acceptance answer_to_send hearing_bytes receiving settled deadline alive_until quiet_until state_at is_up_at header_of pdu_of sending telling limited entered link_beating giving closing link_beginning requesting meeting judging granting joining ahead behind age still_waiting taking repeated retagged repeating link_answering missing handing bringing in_turn admitting testing connected asking resting by_state link_hearing posted fallen keeping risen new_host posting posting_all violating answering initial_status initialising commanding following acting acting_all received hearing paying beginning given beating host_step places_below places number_below number at new_client calling meaning client_fallen client_posting rising client_following client_acting client_acting_all clocked client_hearing client_commanding client_ticking locking_refusal refused obeyed moved_at_once withdrawing ending_authority freeing_next freeing_by_passage freeing_by_cancel moving_one moving proceeding all_clocked known_signal_hearing known_point_hearing looking_by detector_hearing watching node_of node_hearing ixl_given known_signal_ticking known_point_ticking detector_ticking ticked stepped known_signal_after giving_aspect known_point_after giving_move detector_after at_route is_clear is_occupied is_known is_at_known_stop new_ixl world_at detector_stepped happens interlocking_stepped passed point_stepped signal_stepped stepped_at refusal refusal_of_time controller_after controller_anew controller_later sent_by_controller held_of sending_all sending_one host_after
one_there at = refl

holds_one : (at : Port) → held_of short_table (played at to_authority (short_begun at)).interlocking (played at to_authority (short_begun at)).frozen ≡ the_pair ∷ []
holds_one at = ap (λ (w : WorldState). held_of short_table w.interlocking w.frozen) (authority_so at) ∙ one_there at

still_there : (at : Port) → held_of short_table (played at another_behind (authorised at)).interlocking (played at another_behind (authorised at)).frozen ≡ the_pair ∷ []
unfolding resumed requested authorised padding block_words sequence after_block after_blocks digest code intact payload fields text pdu_writing text_of opening_of disconnection_of nothing_of item_of items_to_end items_of body_of pdu_read pdu_reading telegram_writing kind_at name_spelled aspect_in message_in telegram_in telegram_reading created opens opening link_ticking closing_by sending_item acceptance answer_to_send hearing_bytes receiving settled deadline alive_until quiet_until state_at is_up_at header_of pdu_of sending telling limited entered link_beating giving closing link_beginning requesting meeting judging granting joining ahead behind age still_waiting taking repeated retagged repeating link_answering missing handing bringing in_turn admitting testing connected asking resting by_state link_hearing posted fallen keeping risen new_host posting posting_all violating answering initial_status initialising commanding following acting acting_all received hearing paying beginning given beating host_step places_below places number_below number at new_client calling meaning client_fallen client_posting rising client_following client_acting client_acting_all clocked client_hearing client_commanding client_ticking locking_refusal refused obeyed moved_at_once withdrawing ending_authority freeing_next freeing_by_passage freeing_by_cancel moving_one moving proceeding all_clocked known_signal_hearing known_point_hearing looking_by detector_hearing watching node_of node_hearing ixl_given known_signal_ticking known_point_ticking detector_ticking ticked stepped known_signal_after giving_aspect known_point_after giving_move detector_after at_route is_clear is_occupied is_known is_at_known_stop new_ixl world_at detector_stepped happens interlocking_stepped passed point_stepped signal_stepped stepped_at refusal refusal_of_time controller_after controller_anew controller_later sent_by_controller held_of sending_all sending_one host_after
still_there at = refl

holds_still : (at : Port) → held_of short_table (played at to_another (short_begun at)).interlocking (played at to_another (short_begun at)).frozen ≡ the_pair ∷ []
holds_still at = ap (λ (w : WorldState). held_of short_table w.interlocking w.frozen) (another_so at) ∙ still_there at

none_there : (at : Port) → held_of short_table (played at another_behind (authorised at)).interlocking (authorised at).frozen ≡ []
unfolding resumed requested authorised padding block_words sequence after_block after_blocks digest code intact payload fields text pdu_writing text_of opening_of disconnection_of nothing_of item_of items_to_end items_of body_of pdu_read pdu_reading telegram_writing kind_at name_spelled aspect_in message_in telegram_in telegram_reading created opens opening link_ticking closing_by sending_item acceptance answer_to_send hearing_bytes receiving settled deadline alive_until quiet_until state_at is_up_at header_of pdu_of sending telling limited entered link_beating giving closing link_beginning requesting meeting judging granting joining ahead behind age still_waiting taking repeated retagged repeating link_answering missing handing bringing in_turn admitting testing connected asking resting by_state link_hearing posted fallen keeping risen new_host posting posting_all violating answering initial_status initialising commanding following acting acting_all received hearing paying beginning given beating host_step places_below places number_below number at new_client calling meaning client_fallen client_posting rising client_following client_acting client_acting_all clocked client_hearing client_commanding client_ticking locking_refusal refused obeyed moved_at_once withdrawing ending_authority freeing_next freeing_by_passage freeing_by_cancel moving_one moving proceeding all_clocked known_signal_hearing known_point_hearing looking_by detector_hearing watching node_of node_hearing ixl_given known_signal_ticking known_point_ticking detector_ticking ticked stepped known_signal_after giving_aspect known_point_after giving_move detector_after at_route is_clear is_occupied is_known is_at_known_stop new_ixl world_at detector_stepped happens interlocking_stepped passed point_stepped signal_stepped stepped_at refusal refusal_of_time controller_after controller_anew controller_later sent_by_controller held_of sending_all sending_one host_after
none_there at = refl

holds_none : (at : Port) → held_of short_table (played at to_another (short_begun at)).interlocking (played at to_authority (short_begun at)).frozen ≡ []
holds_none at =
    ap (λ (w : WorldState). held_of short_table w.interlocking (played at to_authority (short_begun at)).frozen) (another_so at)
    ∙ ap (λ (w : WorldState). held_of short_table (played at another_behind (authorised at)).interlocking w.frozen) (authority_so at) ∙ none_there at

pub frozen : (at : Port) → NoFrozenRows at
unfolding with_authority with_another
frozen at = record {
  allowed = all_can at to_another (short_begun at);
  before = ap (λ (w : WorldState). held_of short_table w.interlocking w.frozen) (leads at to_authority (short_begun at)) ∙ holds_one at;
  right = ap (λ (w : WorldState). held_of short_table w.interlocking w.frozen) (leads at to_another (short_begun at)) ∙ holds_still at;
  wrong = ap (λ (w : WorldState). held_of short_table w.interlocking (after_all (small at) short_table (with_authority at) (short_begun at)).frozen) (leads at to_another (short_begun at))
      ∙ ap (λ (w : WorldState). held_of short_table (played at to_another (short_begun at)).interlocking w.frozen) (leads at to_authority (short_begun at)) ∙ holds_none at;
}

stop_there : (at : Port) → map shown_by (played at stop_behind (authorised at)).signals ≡ aspects.Stop ∷ []
unfolding resumed requested authorised padding block_words sequence after_block after_blocks digest code intact payload fields text pdu_writing text_of opening_of disconnection_of nothing_of item_of items_to_end items_of body_of pdu_read pdu_reading telegram_writing kind_at name_spelled aspect_in message_in telegram_in telegram_reading created opens opening link_ticking closing_by sending_item acceptance answer_to_send hearing_bytes receiving settled deadline alive_until quiet_until state_at is_up_at header_of pdu_of sending telling limited entered link_beating giving closing link_beginning requesting meeting judging granting joining ahead behind age still_waiting taking repeated retagged repeating link_answering missing handing bringing in_turn admitting testing connected asking resting by_state link_hearing posted fallen keeping risen new_host posting posting_all violating answering initial_status initialising commanding following acting acting_all received hearing paying beginning given beating host_step places_below places number_below number at new_client calling meaning client_fallen client_posting rising client_following client_acting client_acting_all clocked client_hearing client_commanding client_ticking locking_refusal refused obeyed moved_at_once withdrawing ending_authority freeing_next freeing_by_passage freeing_by_cancel moving_one moving proceeding all_clocked known_signal_hearing known_point_hearing looking_by detector_hearing watching node_of node_hearing ixl_given known_signal_ticking known_point_ticking detector_ticking ticked stepped known_signal_after giving_aspect known_point_after giving_move detector_after at_route is_clear is_occupied is_known is_at_known_stop new_ixl world_at detector_stepped happens interlocking_stepped passed point_stepped signal_stepped stepped_at refusal refusal_of_time controller_after controller_anew controller_later sent_by_controller held_of sending_all sending_one host_after
stop_there at = refl

shows_stop : (at : Port) → map shown_by (played at to_stop (short_begun at)).signals ≡ aspects.Stop ∷ []
shows_stop at = ap (λ (w : WorldState). map shown_by w.signals) (stop_so at) ∙ stop_there at

all_lines_there : (at : Port) → shown_by_line at (lines_after signal_behaviour lamp_line (life_in (small at) short_table (signal_at 0) (stop_events at) (first_life tt)).came (signal_begun at)) ≡ aspects.Stop
unfolding resumed requested authorised padding block_words sequence after_block after_blocks digest code intact payload fields text pdu_writing text_of opening_of disconnection_of nothing_of item_of items_to_end items_of body_of pdu_read pdu_reading telegram_writing kind_at name_spelled aspect_in message_in telegram_in telegram_reading created opens opening link_ticking closing_by sending_item acceptance answer_to_send hearing_bytes receiving settled deadline alive_until quiet_until state_at is_up_at header_of pdu_of sending telling limited entered link_beating giving closing link_beginning requesting meeting judging granting joining ahead behind age still_waiting taking repeated retagged repeating link_answering missing handing bringing in_turn admitting testing connected asking resting by_state link_hearing posted fallen keeping risen new_host posting posting_all violating answering initial_status initialising commanding following acting acting_all received hearing paying beginning given beating host_step places_below places number_below number at new_client calling meaning client_fallen client_posting rising client_following client_acting client_acting_all clocked client_hearing client_commanding client_ticking locking_refusal refused obeyed moved_at_once withdrawing ending_authority freeing_next freeing_by_passage freeing_by_cancel moving_one moving proceeding all_clocked known_signal_hearing known_point_hearing looking_by detector_hearing watching node_of node_hearing ixl_given known_signal_ticking known_point_ticking detector_ticking ticked stepped known_signal_after giving_aspect known_point_after giving_move detector_after at_route is_clear is_occupied is_known is_at_known_stop new_ixl world_at detector_stepped happens interlocking_stepped passed point_stepped signal_stepped stepped_at refusal refusal_of_time controller_after controller_anew controller_later sent_by_controller held_of sending_all sending_one host_after
all_lines_there at = refl

by_all_lines : (at : Port) → shown_by_line at (lines_after signal_behaviour lamp_line (came_to_it at) (signal_begun at)) ≡ aspects.Stop
by_all_lines at = ap (λ (events : List Event). shown_by_line at (lines_after signal_behaviour lamp_line (life_in (small at) short_table (signal_at 0) events (first_life tt)).came (signal_begun at))) (with_stop_so at) ∙ all_lines_there at

lines_of_ticks_there : (at : Port) → shown_by_line at (lines_of_ticks signal_behaviour lamp_line (life_in (small at) short_table (signal_at 0) (stop_events at) (first_life tt)).came (signal_begun at)) ≡ aspects.Proceed
unfolding resumed requested authorised padding block_words sequence after_block after_blocks digest code intact payload fields text pdu_writing text_of opening_of disconnection_of nothing_of item_of items_to_end items_of body_of pdu_read pdu_reading telegram_writing kind_at name_spelled aspect_in message_in telegram_in telegram_reading created opens opening link_ticking closing_by sending_item acceptance answer_to_send hearing_bytes receiving settled deadline alive_until quiet_until state_at is_up_at header_of pdu_of sending telling limited entered link_beating giving closing link_beginning requesting meeting judging granting joining ahead behind age still_waiting taking repeated retagged repeating link_answering missing handing bringing in_turn admitting testing connected asking resting by_state link_hearing posted fallen keeping risen new_host posting posting_all violating answering initial_status initialising commanding following acting acting_all received hearing paying beginning given beating host_step places_below places number_below number at new_client calling meaning client_fallen client_posting rising client_following client_acting client_acting_all clocked client_hearing client_commanding client_ticking locking_refusal refused obeyed moved_at_once withdrawing ending_authority freeing_next freeing_by_passage freeing_by_cancel moving_one moving proceeding all_clocked known_signal_hearing known_point_hearing looking_by detector_hearing watching node_of node_hearing ixl_given known_signal_ticking known_point_ticking detector_ticking ticked stepped known_signal_after giving_aspect known_point_after giving_move detector_after at_route is_clear is_occupied is_known is_at_known_stop new_ixl world_at detector_stepped happens interlocking_stepped passed point_stepped signal_stepped stepped_at refusal refusal_of_time controller_after controller_anew controller_later sent_by_controller held_of sending_all sending_one host_after
lines_of_ticks_there at = refl

by_lines_of_ticks : (at : Port) → shown_by_line at (lines_of_ticks signal_behaviour lamp_line (came_to_it at) (signal_begun at)) ≡ aspects.Proceed
by_lines_of_ticks at = ap (λ (events : List Event). shown_by_line at (lines_of_ticks signal_behaviour lamp_line (life_in (small at) short_table (signal_at 0) events (first_life tt)).came (signal_begun at))) (with_stop_so at) ∙ lines_of_ticks_there at

pub line : (at : Port) → LineNotTold at
unfolding with_stop
line at = record {
  allowed = all_can at to_stop (short_begun at);
  is_so = ap (λ (w : WorldState). map shown_by w.signals) (leads at to_stop (short_begun at)) ∙ shows_stop at;
  right = by_all_lines at;
  wrong = by_lines_of_ticks at;
}
