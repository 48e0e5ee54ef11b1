-- Words of links, and of rounds at work.
pub use Rattle.rasta_core.specs.EndFlow.{EndFlow, IsAt, IsOf, items_of, sent}
pub use Rattle.rasta_core.specs.FirstPdus.{HearsOutside, PlaysEarly, asks, gone, grants, refuses}
pub use Rattle.rasta_core.specs.Invariant.{InFlight, Timely}
pub use Rattle.rasta_core.specs.LinkAndFlow.{HasJoined, IsInside, IsStillAsking, Plays, joined, left, reads}
pub use Rattle.rasta_core.specs.Order.{BeginsByResponse, Carries, InOrder, IsAnswer, IsAsking, IsClosing, IsRequest, IsResponse, IsSent, IsUnanswered, OpensOn, Rises, Waits, Way}
pub use Rattle.rasta_core.specs.Ordered.{AreTogether, IsAlone, IsSpelledIn, Ordered, alone, together, unbegun}
pub use Rattle.rasta_core.specs.TimedEnds.{HasHeard, Inside, IsOutside, Outside, Times, closed_at, heard_stamp, own_stamp, standing, times_of}
pub use Rattle.rasta_core.specs.Timely.{IsAnswering, IsKnown, WasReadThen}
pub use Rattle.rasta_core_spec.specs.Bag.{is_copy, lifetime, without_oldest}
unfoldable pub use Rattle.rasta_core_spec.specs.Calls.{acceptance, answer_to_send, closing_by, created, hearing_bytes, opening, opens, receiving, sending_item, ticking}
pub use Rattle.rasta_core_spec.specs.Clock.{open_state}
unfoldable pub use Rattle.rasta_core_spec.specs.Clock.{deadline, settled, state_at}
pub use Rattle.rasta_core_spec.specs.Each.{Each}
pub use Rattle.rasta_core_spec.specs.Ends.{Call, Closes, EndState, Opens, Outcome, Receives, Sends, Sent, Ticks, handed_out, is_taken, kept, newer, reading_of}
unfoldable pub use Rattle.rasta_core_spec.specs.Ends.{end_after, end_later, end_restarted, outcome}
pub use Rattle.rasta_core_spec.specs.Establishment.{is_down, may_open, own_opening}
unfoldable pub use Rattle.rasta_core_spec.specs.Establishment.{beginning, granting, joining, judging, meeting, requesting}
pub use Rattle.rasta_core_spec.specs.Events.{AreForeign, Calls, Elsewhere, Event, IsAmong, IsDelivered, IsFor, IsWithinDrift, Loses, May, MayCall, MayRun, Passes, Restarts, Start, happened, run, started}
pub use Rattle.rasta_core_spec.specs.Given.{is_same}
pub use Rattle.rasta_core_spec.specs.Names.{AreNames, Names, identity_of, name_of, partner_of}
pub use Rattle.rasta_core_spec.specs.Outbox.{spellings}
pub use Rattle.rasta_core_spec.specs.Parameters.{connection_limit, own_version, sequence_range, stops_at_greatest, window_size}
pub use Rattle.rasta_core_spec.specs.PduRead.{reading}
pub use Rattle.rasta_core_spec.specs.PdusHandedOut.{Step, closed, is_told, silent, then_do}
unfoldable pub use Rattle.rasta_core_spec.specs.PdusHandedOut.{beating, closing, entered, giving, header_of, limited, pdu_of, sending, telling}
pub use Rattle.rasta_core_spec.specs.Receipt.{Receipt, accepting, admission, answers_request, confirms, is_opening_again, is_stale, refusing, violating}
unfoldable pub use Rattle.rasta_core_spec.specs.Receipt.{admitting, age, ahead, answering, asking, behind, bringing, by_state, connected, handing, hearing, in_turn, missing, repeated, repeating, resting, retagged, still_waiting, taking, testing}
pub use Rattle.rasta_core_spec.specs.Run.{Ends, end_of}
unfoldable pub use Rattle.rasta_core_spec.specs.Run.{called, later, lost, restarted}
pub use Rattle.rasta_core_spec.specs.Safe.{DoesNothing, IsIdle}
pub use Rattle.rasta_core_spec.specs.SafetyCode.{IsIntact}
pub use Rattle.rasta_core_spec.specs.Sentences.{IsIn, IsOpening, IsOut, receipt_at}
pub use Rattle.rasta_core_spec.specs.Sequence.{before, distance, stamp, wire}
pub use Rattle.rasta_core_spec.specs.Spelling.{writing}
pub use Rattle.rasta_core_spec.specs.State.{LinkState, confirmed_items, is_asking, is_client, is_open, is_up}
pub use Rattle.rasta_core_spec.specs.Values.{IsPdu}
pub use Rattle.rasta_core_spec.specs.body.Body.{Body}
pub use Rattle.rasta_core_spec.specs.body.Body.TheVariants.{ConnectionRequest, ConnectionResponse, Data, DisconnectionRequest, Heartbeat, RetransmissionRequest, RetransmissionResponse, RetransmittedData}
pub use Rattle.rasta_core_spec.specs.body.Opening.{Opening}
pub use Rattle.rasta_core_spec.specs.header.Header.{Header}
pub use Rattle.rasta_core_spec.specs.identity.Identity.{Identity}
pub use Rattle.rasta_core_spec.specs.identity.Role.{Role}
pub use Rattle.rasta_core_spec.specs.key.Key.{Key}
pub use Rattle.rasta_core_spec.specs.pdu.Pdu.{Pdu}
pub use Rattle.rasta_core_spec.specs.pdu_fault.PduFault.{PduFault}
pub use Rattle.rasta_core_spec.specs.phase.Phase.{Phase}
pub use Rattle.rasta_core_spec.specs.phase.State.{State}
pub use Rattle.rasta_core_spec.specs.reason.Reason.{Reason}
pub use Rattle.rasta_core_spec.specs.verdict.Verdict.{Verdict}
pub use Rattle.rasta_core_spec.specs.window.Unconfirmed.{Unconfirmed}
