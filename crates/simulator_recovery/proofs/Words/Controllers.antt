-- Words of telegrams, of controllers and of their objects.
pub use Rattle.object_host_laws.specs.Point.{IsFinal, IsPointStep, IsReported, found_by, initial_reports, is_moving, moved_by, position_told, stage_by}
unfoldable pub use Rattle.object_host_laws.specs.Point.{moves_in}
pub use Rattle.object_host_laws.specs.Signal.{IsTold, aspect_due, aspect_taken}
unfoldable pub use Rattle.object_host_laws.specs.Signal.{last_indicated}
pub use Rattle.object_host_laws.specs.World.{ClientRestarts, Commands, Elsewhere, Event, HostRestarts, May, MayHear, Passes, Steps, World, as_call, entering, host_of, step_of}
unfoldable pub use Rattle.object_host_laws.specs.World.{MayRun, called_all, happened, host_restarted, run, stepped}
pub use Rattle.simulator_spec.specs.object_host.Behaviour.{Behaviour}
pub use Rattle.simulator_spec.specs.object_host.Host.{Closes, HostSoFar, HostState, LinkCall, Receives, Sends, at_stage, is_completed, is_outside, said, sender_of, silent, telegram_of, then_do}
unfoldable pub use Rattle.simulator_spec.specs.object_host.Host.{fallen, keeping, risen}
pub use Rattle.simulator_spec.specs.object_host.Hosted.{IsNamedAs}
unfoldable pub use Rattle.simulator_spec.specs.object_host.Hosted.{new_host}
pub use Rattle.simulator_spec.specs.object_host.Made.{ActsOn, AreCallsFor, AreItems, AreOwn, call_made, command_of, is_command, items_given_by}
unfoldable pub use Rattle.simulator_spec.specs.object_host.Made.{calls_made, commands_of, items_given, items_taken}
pub use Rattle.simulator_spec.specs.object_host.Meaning.{meaning}
pub use Rattle.simulator_spec.specs.object_host.Object.{Keeps, Loses, ObjectCall, Pays, Senses, Takes, Ticks, object_after, one_of}
unfoldable pub use Rattle.simulator_spec.specs.object_host.Object.{contacts_in, object_after_all, reports_paid, telegrams_in}
pub use Rattle.simulator_spec.specs.object_host.Step.{ending, goes_on, is_admitted, is_from_peer, is_in_version, most_objects, most_owed, paid, paying_first, report_then, telling_status}
unfoldable pub use Rattle.simulator_spec.specs.object_host.Step.{acting, acting_all, answering, beating, beginning, commanding, following, given, hearing, host_step, initial_status, initialising, paying, posting, posting_all, received, violating}
pub use Rattle.simulator_spec.specs.object_host.Told.{AreComing, ArePayments, AreSomeOf, IsToldIn, IsVersionAnswer, calls_begun, calls_in_step, contacts_of, has_lost, initialisation, item_of, loss_where}
unfoldable pub use Rattle.simulator_spec.specs.object_host.Told.{AllFit}
pub use Rattle.simulator_spec.specs.object_host.declared.input.Input.{Input}
pub use Rattle.simulator_spec.specs.object_host.declared.report.Report.{Report}
pub use Rattle.simulator_spec.specs.object_host.declared.sense.Sense.{Sense}
pub use Rattle.simulator_spec.specs.object_host.declared.stage.Stage.{Stage}
pub use Rattle.simulator_spec.specs.point_ctl.Controlled.{point_behaviour}
pub use Rattle.simulator_spec.specs.point_ctl.Drive.{PointState, answered, begun, commanded_by, drive_end, driven, drives, final_report, is_answered, is_at, limited, move_in, move_taken, own_report, position_report, reached, sensing, taking, ticking}
pub use Rattle.simulator_spec.specs.point_ctl.History.{one_more, unanswered}
pub use Rattle.simulator_spec.specs.point_ctl.declared.progress.Progress.{Progress}
pub use Rattle.simulator_spec.specs.point_ctl.declared.progress.Progress.TheVariants.{Answered, Arrived, Driving, TimedOut}
pub use Rattle.simulator_spec.specs.sci_telegram.Messages.{protocol_of, type_number}
pub use Rattle.simulator_spec.specs.sci_telegram.Names.{IsName}
pub use Rattle.simulator_spec.specs.sci_telegram.TelegramRead.{reading}
pub use Rattle.simulator_spec.specs.sci_telegram.Telegrams.{IsMessage}
unfoldable pub use Rattle.simulator_spec.specs.sci_telegram.Telegrams.{writing}
pub use Rattle.simulator_spec.specs.sci_telegram.declared.fault.SciFault.{SciFault}
pub use Rattle.simulator_spec.specs.sci_telegram.declared.message.Agreement.TheVariants.{Match, NoMatch}
pub use Rattle.simulator_spec.specs.sci_telegram.declared.message.Aspect.{Aspect}
pub use Rattle.simulator_spec.specs.sci_telegram.declared.message.Aspect.TheVariants.{Stop}
pub use Rattle.simulator_spec.specs.sci_telegram.declared.message.Initialisation.{Initialisation}
pub use Rattle.simulator_spec.specs.sci_telegram.declared.message.Initialisation.TheVariants.{InitialisationCompleted, InitialisationRequest, StartInitialisation, VersionAnswer, VersionCheck}
pub use Rattle.simulator_spec.specs.sci_telegram.declared.message.Message.{Message}
pub use Rattle.simulator_spec.specs.sci_telegram.declared.message.Occupancy.{Occupancy}
pub use Rattle.simulator_spec.specs.sci_telegram.declared.message.Occupancy.TheVariants.{Clear, Occupied}
pub use Rattle.simulator_spec.specs.sci_telegram.declared.message.PointMessage.TheVariants.{MovePoint, PointPosition, Timeout}
pub use Rattle.simulator_spec.specs.sci_telegram.declared.message.Position.{Position}
pub use Rattle.simulator_spec.specs.sci_telegram.declared.message.Protocol.{Protocol}
pub use Rattle.simulator_spec.specs.sci_telegram.declared.message.Side.{Side}
pub use Rattle.simulator_spec.specs.sci_telegram.declared.message.SignalMessage.{SignalMessage}
pub use Rattle.simulator_spec.specs.sci_telegram.declared.message.SignalMessage.TheVariants.{IndicateAspect, IndicatedAspect}
pub use Rattle.simulator_spec.specs.sci_telegram.declared.telegram.Telegram.{Telegram}
pub use Rattle.simulator_spec.specs.signal_ctl.History.{or_else}
pub use Rattle.simulator_spec.specs.signal_ctl.Lamp.{aspect_shown, standing}
pub use Rattle.simulator_spec.specs.signal_ctl.Signal.{SignalState, fits, indicated_report, indicates, signal_behaviour, told}
pub use Rattle.simulator_spec.specs.tds_ctl.Controlled.{detection_behaviour}
pub use Rattle.simulator_spec.specs.tds_ctl.Sections.{changed, is_same, losing, owes, owing, settled, status_of, with_section}
pub use Rattle.simulator_spec.specs.tds_ctl.declared.section.Section.{Section}
