-- Words of the interlocking, its clients and its rules.
pub use Rattle.ixl_table.specs.Table.{IsHeldUntil, IsReportedIn, IsRowOf, IsTableOf, as_point, as_route, as_section, required}
pub use Rattle.release.specs.Passage.{PassageState, after_look}
unfoldable pub use Rattle.release.specs.Passage.{passage_after}
pub use Rattle.simulator_spec.specs.ixl_client.Client.{ClientState, IsClient, PeerState, is_available, is_outside, is_ready}
unfoldable pub use Rattle.simulator_spec.specs.ixl_client.Client.{new_client}
pub use Rattle.simulator_spec.specs.ixl_client.ClientSoFar.{ClientSoFar, Closes, LinkCall, Opens, Receives, Sends, Ticks, as_call, begun, call_made}
unfoldable pub use Rattle.simulator_spec.specs.ixl_client.ClientSoFar.{calling}
pub use Rattle.simulator_spec.specs.ixl_client.ExpectedTelegrams.{IsExpected, IsExpectedAt, IsForClient, Tells, TellsState}
pub use Rattle.simulator_spec.specs.ixl_client.ItemsSaid.{item_of}
pub use Rattle.simulator_spec.specs.ixl_client.Made.{ActsOn, AreOwn, MakesAfterReceipt, MakesOwn, told_by, told_of}
unfoldable pub use Rattle.simulator_spec.specs.ixl_client.Made.{link_after, told_by_all}
pub use Rattle.simulator_spec.specs.ixl_client.Meaning.{initial_meaning, is_for_client, is_in_turn, is_in_version, is_match, is_same_protocol, is_status, meaning_of, place_of, report_meaning, reports_changes, state_in}
unfoldable pub use Rattle.simulator_spec.specs.ixl_client.Meaning.{meaning}
pub use Rattle.simulator_spec.specs.ixl_client.Step.{acted_on, at_stage, ending, is_refused_by_window, meaning_of_item, message_of, saying, stage_after_command, stage_after_report, telegram_to}
unfoldable pub use Rattle.simulator_spec.specs.ixl_client.Step.{acting, acting_all, clocked, commanding, fallen, following, hearing, posting, rising, ticking}
pub use Rattle.simulator_spec.specs.ixl_client.declared.command.Command.TheVariants.{Indicate, Move}
pub use Rattle.simulator_spec.specs.ixl_client.declared.indication.Indication.{Indication}
pub use Rattle.simulator_spec.specs.ixl_client.declared.indication.ObjectState.{ObjectState}
pub use Rattle.simulator_spec.specs.ixl_client.declared.stage.Stage.{Stage}
pub use Rattle.simulator_spec.specs.ixl_spec.Commands.{cancel_refusal, commanded_by, conflict_told, held_told, is_ended, own_section_refusal, refused_where, release_refusal, released_at, request_refusal, set_anew, unmoved_for}
unfoldable pub use Rattle.simulator_spec.specs.ixl_spec.Commands.{closed_refusal, locking_refusal, moved_at_once, moving_refusal, obeyed, refusal}
pub use Rattle.simulator_spec.specs.ixl_spec.Due.{Admissible, AllClear, AllKnown, At, FreeByCancel, Freeable, HoldsPoint, IsAvailable, IsClear, IsHeldAt, IsHeldWithAuthority, IsKnownSignalAtStop, IsReleaseOver, IsRouteOf, IsSignalReady, Known, KnownStop, LetsGo, LiesInClosed, MoveDue, ProceedDue, ReportedBy, StopDue}
pub use Rattle.simulator_spec.specs.ixl_spec.EndDue.{SomeFreeable}
pub use Rattle.simulator_spec.specs.ixl_spec.Rules.{authorised, come_to, count, ended, freed, freed_by_cancel, freed_by_passage, frees_cancelled, frees_next, is_move_due, is_over_clear, is_proceed_due, is_proceeding, is_stop_due, is_unmoved, is_waiting, is_withdrawn, moved, one_freed, repeated, ruled, stopped, withdrawn}
unfoldable pub use Rattle.simulator_spec.specs.ixl_spec.Rules.{ending_authority, freeing_by_cancel, freeing_by_passage, freeing_next, moving, moving_one, proceeding, withdrawing}
pub use Rattle.simulator_spec.specs.ixl_spec.State.{IxlState, KnownDetectorState, KnownPointState, KnownSignalState, RouteState, changed}
pub use Rattle.simulator_spec.specs.ixl_spec.Step.{Commands, Datagram, Input, Tick, addressed, answer_by, as_node, clocked_detector, clocked_known_point, clocked_known_signal, is_told_occupied, looking, looks, occupied_heard, or_else, partner_at, route_looks, side_heard, side_of, told_before, told_now}
unfoldable pub use Rattle.simulator_spec.specs.ixl_spec.Step.{all_clocked, detector_hearing, detector_ticking, given, known_point_hearing, known_point_ticking, known_signal_hearing, known_signal_ticking, looking_by, node_hearing, node_of, reply, stepped, ticked, watching}
pub use Rattle.simulator_spec.specs.ixl_spec.Operations.{first_holding, first_route}
unfoldable pub use Rattle.simulator_spec.specs.ixl_spec.Operations.{lies_in_closed}
pub use Rattle.simulator_spec.specs.ixl_spec.StepSoFar.{Detector, Node, Point, Signal, StepSoFar, all_below, along, begun_with, empty_outbox, noted, over, with_detector, with_one, with_route}
unfoldable pub use Rattle.simulator_spec.specs.ixl_spec.StepSoFar.{at_route, detector_after, giving_aspect, giving_move, known_point_after, known_signal_after}
pub use Rattle.simulator_spec.specs.ixl_spec.Table.{Need, Row, SitedTable, Table, is_same_side, passes}
unfoldable pub use Rattle.simulator_spec.specs.ixl_spec.Table.{at}
pub use Rattle.simulator_spec.specs.ixl_spec.View.{all_clear, all_known, blocks, first_blocking, freed_sections, has_taken_stop, holds_need, holds_point, holds_point_elsewhere, holds_section, is_approach_clear, is_held_with_authority, is_holding, is_known_signal_at_stop, is_point_available, is_set, is_side, is_signal_ready, place_in, was_authorised}
unfoldable pub use Rattle.simulator_spec.specs.ixl_spec.View.{is_at_known_stop, is_clear, is_known}
pub use Rattle.simulator_spec.specs.ixl_spec.declared.command.Command.{Command}
pub use Rattle.simulator_spec.specs.ixl_spec.declared.command.Command.TheVariants.{Cancel}
pub use Rattle.simulator_spec.specs.ixl_spec.declared.command.Refusal.{Refusal}
pub use Rattle.simulator_spec.specs.ixl_spec.declared.phase.Phase.{Phase}
pub use Rattle.simulator_spec.specs.rasta_pdu.PduRead.{reading}
pub use Rattle.simulator_spec.specs.rasta_pdu.SafetyCode.{IsIntact, intact}
pub use Rattle.simulator_spec.specs.rasta_pdu.declared.key.Key.{Key}
pub use Rattle.simulator_spec.specs.rasta_pdu.declared.pdu.Pdu.{Pdu}
