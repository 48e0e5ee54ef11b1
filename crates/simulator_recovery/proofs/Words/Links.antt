-- Words of links, and of rounds at work.
pub use Rattle.rasta_core_recovery.specs.Confirming.{Answers, AreIn, Confirming, FewLeft, HasLeft, Owes}
pub use Rattle.rasta_core_recovery.specs.FirstRound.{BeginAtWork, IsFirstAtWork, WereSent}
pub use Rattle.rasta_core_recovery.specs.LongAgo.{AreStillIn, WaitsAsGivenSince, lasting_rounds}
pub use Rattle.rasta_core_recovery.specs.Replies.{Accepts, SpeaksAlone, StaysAtWork, in_round, speaking_rounds, with_reply}
pub use Rattle.rasta_core_recovery.specs.Rounds.{AreUp, Flow, can_come, flow_after}
pub use Rattle.rasta_core_recovery.specs.ServerConfirming.{AwaitsAnswers, ClientHasLeft, ClientOwes, FewOfServerLeft, FewOfServerWait, ServerConfirming}
pub use Rattle.rasta_core_recovery.specs.Work.{AreAtWork, HandOver, HasRoom, HaveRoom, IsAtWork, IsBeforeTick, IsBehindTick, IsCall, IsWorkAt, LeavesOpen, StayBelow, all_coming, called_in, calls_in, clock_calls, coming, due_to, recovery_rounds_at_work, work_round, work_rounds}
pub use Rattle.simulator_spec.specs.rasta_core.Bag.{is_alive_copy, is_copy, lifetime, newest_copy}
unfoldable pub use Rattle.simulator_spec.specs.rasta_core.Calls.{acceptance, answer_to_send, closing_by, created, hearing_bytes, opening, opens, receiving, sending_item, ticking}
pub use Rattle.simulator_spec.specs.rasta_core.Clock.{open_state}
unfoldable pub use Rattle.simulator_spec.specs.rasta_core.Clock.{alive_until, deadline, quiet_until, settled, state_at}
pub use Rattle.simulator_spec.specs.rasta_core.Each.{Each}
pub use Rattle.simulator_spec.specs.rasta_core.EachLink.{AreOrdered, AreTimely}
pub use Rattle.simulator_spec.specs.rasta_core.EndFlow.{IsAt, IsOf, sent}
pub use Rattle.simulator_spec.specs.rasta_core.Ends.{Call, Closes, EndState, Opens, Outcome, Receives, Sends, Sent, Ticks, entered_by, handed_out, is_taken, kept, newer, reading_of}
unfoldable pub use Rattle.simulator_spec.specs.rasta_core.Ends.{end_after, end_later, end_restarted, outcome}
pub use Rattle.simulator_spec.specs.rasta_core.Establishment.{is_down, may_open, own_opening}
unfoldable pub use Rattle.simulator_spec.specs.rasta_core.Establishment.{beginning, granting, joining, judging, meeting, requesting}
pub use Rattle.simulator_spec.specs.rasta_core.Events.{AreForeign, Calls, Elsewhere, Event, IsAmong, IsDelivered, IsRun, Loses, May, MayCall, MayRun, Passes, Restarts, Start, happened, run, started}
pub use Rattle.simulator_spec.specs.rasta_core.Given.{is_of, is_same, items_given, items_in}
pub use Rattle.simulator_spec.specs.rasta_core.Invariant.{InFlight, Timely}
pub use Rattle.simulator_spec.specs.rasta_core.LinkAndFlow.{HasJoined, Plays, joined, left}
pub use Rattle.simulator_spec.specs.rasta_core.Links.{AreLinks, CallsOn, IsAmongAll, Links, LinksEvent, LosesAny, MayCallOn, MayRunLinks, OnLink, PassesFor, RestartsOn, WasSent, begun, events_on, happened_to, is_oldest_on, of_link, run_links, run_on, seen, sent_by, sent_on, start_of, without_oldest_of_all}
pub use Rattle.simulator_spec.specs.rasta_core.Names.{AreNames, Names, identity_of, name_of, partner_of}
pub use Rattle.simulator_spec.specs.rasta_core.Nodes.{NodeCall, at_link, calls_of, restarts_of}
pub use Rattle.simulator_spec.specs.rasta_core.Order.{IsSent, IsUnanswered, Rises}
pub use Rattle.simulator_spec.specs.rasta_core.Ordered.{AreTogether, IsSpelledIn, Ordered, alone, together, unbegun}
pub use Rattle.simulator_spec.specs.rasta_core.Outbox.{OutboxState, spellings}
pub use Rattle.simulator_spec.specs.rasta_core.Parameters.{connection_limit, heartbeat_interval, own_version, quiet_time, sequence_range, stops_at_greatest, window_size}
pub use Rattle.simulator_spec.specs.rasta_core.PdusHandedOut.{Step, closed, is_told, silent, then_do}
unfoldable pub use Rattle.simulator_spec.specs.rasta_core.PdusHandedOut.{beating, closing, entered, giving, header_of, limited, pdu_of, sending, telling}
pub use Rattle.simulator_spec.specs.rasta_core.Receipt.{Receipt, accepting, admission, answers_request, confirms, is_opening_again, is_stale, refusing, violating}
unfoldable pub use Rattle.simulator_spec.specs.rasta_core.Receipt.{admitting, age, ahead, answering, asking, behind, bringing, by_state, connected, handing, hearing, in_turn, missing, repeating, resting, retagged, still_waiting, taking, testing}
pub use Rattle.simulator_spec.specs.rasta_core.Run.{Ends, end_of}
unfoldable pub use Rattle.simulator_spec.specs.rasta_core.Run.{called, later, lost, restarted}
pub use Rattle.simulator_spec.specs.rasta_core.Safe.{IsCounted, IsFew, IsSafe, counts, made_anew}
pub use Rattle.simulator_spec.specs.rasta_core.Sentences.{IsIn, IsOut, receipt_at}
pub use Rattle.simulator_spec.specs.rasta_core.Sequence.{before, distance, stamp, wire}
pub use Rattle.simulator_spec.specs.rasta_core.State.{LinkState, confirmed_items, is_asking, is_client, is_open, is_up}
pub use Rattle.simulator_spec.specs.rasta_core.Steps.{calls_at}
unfoldable pub use Rattle.simulator_spec.specs.rasta_core.Steps.{all_made, made_by}
pub use Rattle.simulator_spec.specs.rasta_core.TimedEnds.{Inside, IsInside, Outside, Times, own_stamp, standing, times_of}
pub use Rattle.simulator_spec.specs.rasta_core.Timely.{IsAnswering, IsKnown, WasReadThenBy}
pub use Rattle.simulator_spec.specs.rasta_core.TrueClocks.{Offset}
pub use Rattle.simulator_spec.specs.rasta_core.fault.SendFault.{SendFault}
pub use Rattle.simulator_spec.specs.rasta_core.fault.SendFault.TheVariants.{NotUp, WindowFull}
pub use Rattle.simulator_spec.specs.rasta_core.identity.Identity.{Identity}
pub use Rattle.simulator_spec.specs.rasta_core.identity.Role.{Role}
pub use Rattle.simulator_spec.specs.rasta_core.phase.Phase.{Phase}
pub use Rattle.simulator_spec.specs.rasta_core.phase.State.{State}
pub use Rattle.simulator_spec.specs.rasta_core.reason.Reason.{Reason}
pub use Rattle.simulator_spec.specs.rasta_core.verdict.Verdict.{Verdict}
pub use Rattle.simulator_spec.specs.rasta_core.window.Unconfirmed.{Unconfirmed}
pub use Rattle.simulator_spec.specs.rasta_pdu.PduRead.{reading}
pub use Rattle.simulator_spec.specs.rasta_pdu.SafetyCode.{IsIntact, intact}
pub use Rattle.simulator_spec.specs.rasta_pdu.Spelling.{writing}
pub use Rattle.simulator_spec.specs.rasta_pdu.Values.{IsPdu}
pub use Rattle.simulator_spec.specs.rasta_pdu.declared.body.Body.{Body}
pub use Rattle.simulator_spec.specs.rasta_pdu.declared.body.Body.TheVariants.{ConnectionRequest, ConnectionResponse, Data, DisconnectionRequest, Heartbeat, RetransmissionRequest, RetransmissionResponse, RetransmittedData}
pub use Rattle.simulator_spec.specs.rasta_pdu.declared.body.Opening.{Opening}
pub use Rattle.simulator_spec.specs.rasta_pdu.declared.fault.PduFault.{PduFault}
pub use Rattle.simulator_spec.specs.rasta_pdu.declared.key.Key.{Key}
pub use Rattle.simulator_spec.specs.rasta_pdu.declared.pdu.Pdu.{Pdu}
