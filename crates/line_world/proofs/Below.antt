-- Definitions of the layers below that proofs here unfold.
unfoldable pub use Rattle.line_host.specs.Host.{begun, given, host_step, ticked}
unfoldable pub use Rattle.line_host.specs.Talk.{acting, acting_all, beating, closing, following, giving_all, hearing_datagram, meeting, opened, receives, saying, sending, understood}
unfoldable pub use Rattle.rasta_core.specs.Calls.{acceptance, answer_to_send, closing_by, created, hearing_bytes, opening, opens, receiving, sending_item, ticking}
unfoldable pub use Rattle.rasta_core.specs.Clock.{deadline, settled, state_at}
unfoldable pub use Rattle.rasta_core.specs.Ends.{end_after, end_later, end_restarted, outcome}
unfoldable pub use Rattle.rasta_core.specs.Establishment.{beginning, granting, joining, judging, meeting as link_meeting, requesting}
unfoldable pub use Rattle.rasta_core.specs.Outbox.{posted}
unfoldable pub use Rattle.rasta_core.specs.PdusHandedOut.{beating as beats, closing as closes, entered, giving, limited, sending as sends, telling}
unfoldable pub use Rattle.rasta_core.specs.Receipt.{admitting, ahead, answering, asking, bringing, by_state, connected, handing, hearing, in_turn, missing, repeating, resting, taking, testing}
unfoldable pub use Rattle.rasta_core.specs.Run.{called, later, restarted}
unfoldable pub use Rattle.rasta_core.specs.Steps.{EnterNone, all_made, enters_by, made_by}
