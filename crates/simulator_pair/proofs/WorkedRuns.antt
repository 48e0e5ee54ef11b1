-- The worked runs, computed.
use Rattle.std.proofs.Common.{refl}
use Rattle.md4.specs.Md4.{padding, block_words, sequence, after_block, after_blocks, digest}
use Rattle.rasta_pdu.specs.SafetyCode.{code, intact}
use Rattle.rasta_pdu.specs.Spelling.{payload, fields, text, writing}
use Rattle.rasta_pdu.specs.PduRead.{text_of, opening_of, disconnection_of, nothing_of, item_of, items_to_end, items_of, body_of, pdu_of as pdu_read, reading}
use Rattle.rasta_core.specs.Calls.{created, opens, opening, ticking, closing_by, sending_item, acceptance, answer_to_send, hearing_bytes, receiving}
use Rattle.rasta_core.specs.Clock.{settled, deadline, alive_until, quiet_until, state_at, is_up_at}
use Rattle.rasta_core.specs.PdusHandedOut.{header_of, pdu_of, sending, telling, limited, entered, beating, giving, closing}
use Rattle.rasta_core.specs.Establishment.{beginning, requesting, meeting, judging, granting, joining}
use Rattle.rasta_core.specs.Receipt.{age, ahead, behind, still_waiting, taking, repeated, retagged, repeating, answering, missing, handing, bringing, in_turn, admitting, testing, connected, asking, resting, by_state, hearing}
use Rattle.rasta_core.specs.Ends.{outcome, end_after, end_later, end_restarted}
use Rattle.rasta_core.specs.Run.{called, later, restarted}
use Rattle.simulator_pair.specs.Pair.{stepped, lamp_after, indicated_after}
use Rattle.simulator_pair.specs.Events.{happens, refusal, refusal_of_time, refusal_of_delivery}
use Rattle.simulator_pair.specs.Worked.{Reopening, Restarting, Retransmission, both_up, one_missing, first_again, both_again, up_again, at_proceed, made_anew, again}

pub retransmission : Retransmission
unfolding both_up one_missing first_again both_again closing padding block_words sequence after_block after_blocks digest code intact payload fields text writing text_of opening_of disconnection_of nothing_of item_of items_to_end items_of body_of pdu_read reading created settled deadline alive_until quiet_until state_at is_up_at header_of pdu_of sending telling limited entered beating giving beginning requesting meeting judging granting joining opens opening ticking closing_by sending_item acceptance answer_to_send hearing_bytes receiving age ahead behind still_waiting taking repeated retagged repeating answering missing handing bringing in_turn admitting testing connected asking resting by_state hearing outcome end_after end_later end_restarted called later restarted refusal refusal_of_time refusal_of_delivery happens stepped lamp_after indicated_after
retransmission = record { missing = refl; first = refl; proceed = refl; both = refl; stop = refl; confirmed = refl }

pub reopening : Reopening
unfolding both_up up_again closing padding block_words sequence after_block after_blocks digest code intact payload fields text writing text_of opening_of disconnection_of nothing_of item_of items_to_end items_of body_of pdu_read reading created settled deadline alive_until quiet_until state_at is_up_at header_of pdu_of sending telling limited entered beating giving beginning requesting meeting judging granting joining opens opening ticking closing_by sending_item acceptance answer_to_send hearing_bytes receiving age ahead behind still_waiting taking repeated retagged repeating answering missing handing bringing in_turn admitting testing connected asking resting by_state hearing outcome end_after end_later end_restarted called later restarted refusal refusal_of_time refusal_of_delivery happens stepped lamp_after indicated_after
reopening = record { client = refl; server = refl; same = refl; new = refl }

pub restarting : Restarting
unfolding both_up at_proceed made_anew again closing padding block_words sequence after_block after_blocks digest code intact payload fields text writing text_of opening_of disconnection_of nothing_of item_of items_to_end items_of body_of pdu_read reading created settled deadline alive_until quiet_until state_at is_up_at header_of pdu_of sending telling limited entered beating giving beginning requesting meeting judging granting joining opens opening ticking closing_by sending_item acceptance answer_to_send hearing_bytes receiving age ahead behind still_waiting taking repeated retagged repeating answering missing handing bringing in_turn admitting testing connected asking resting by_state hearing outcome end_after end_later end_restarted called later restarted refusal refusal_of_time refusal_of_delivery happens stepped lamp_after indicated_after
restarting = record { proceed = refl; request = refl; heartbeat = refl; item = refl; allowed = refl; dark = refl; still_dark = refl; before = refl; silent = refl }
