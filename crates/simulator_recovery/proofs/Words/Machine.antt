-- Words of the machine.
pub use Rattle.simulator_machine.specs.Chains.{MovesTo}
pub use Rattle.simulator_machine.specs.Invariant.{Invariant, IsPointSound}
pub use Rattle.simulator_machine.specs.Link.{Before, Closes, ComesUp, Enters, Gone, In, Leaves, Opens, QuietEnds, Server}
pub use Rattle.simulator_machine.specs.Lists.{changed_at, is_same, last_of}
pub use Rattle.simulator_machine.specs.Machine.{Machine, is_held, with_point, with_route}
pub use Rattle.simulator_machine.specs.Moves.{AtPoint, AtSignal, Authorises, Ends, Frees, FreesPart, GivesAspect, GivesMove, HoldEnds, May, Move, Restarts, Sets, after}
pub use Rattle.simulator_machine.specs.Point.{DriveEnds, Hears, IsKnownAt, Point, PointLink, PointMay, PointMove, Position, Reaches, RecountsMoves, RecountsReports, Reports, Side, Takes, heard_next, moves_given, point_after, reports_made}
pub use Rattle.simulator_machine.specs.Route.{Authorised, Ended, Free, Phase, Waiting, has_authority}
pub use Rattle.simulator_machine.specs.Run.{MayRun, first, right_rules, run}
pub use Rattle.simulator_machine.specs.Signal.{Aspect, Proceed, Signal, Stop, aspects_given, shown, shown_by}
pub use Rattle.simulator_machine.specs.Table.{IsSound, Table}
pub use Rattle.simulator_move_laws.specs.EndsSeen.{is_same_connection, server_in, server_of}
pub use Rattle.simulator_move_laws.specs.Flows.{ClientIsAfter, given_by, of_server, reports_given, taken_by}
unfoldable pub use Rattle.simulator_move_laws.specs.Flows.{given_after, taken_after}
pub use Rattle.simulator_move_laws.specs.Items.{aspect_seen, aspects_in, moves_in, moves_of, position_seen, reports_in, reports_of, said_by}
unfoldable pub use Rattle.simulator_move_laws.specs.Items.{all_said}
pub use Rattle.simulator_move_laws.specs.Lawful.{IsLawful}
pub use Rattle.simulator_move_laws.specs.Link.{is_inside}
pub use Rattle.simulator_move_laws.specs.Nodes.{IsLastGiven, KnownPointFits, KnownSignalFits, phase_seen, route_seen}
pub use Rattle.simulator_move_laws.specs.Rows.{is_side_seen, row_or_none}
unfoldable pub use Rattle.simulator_move_laws.specs.Rows.{machine_table}
pub use Rattle.simulator_move_laws.specs.Sees.{SeesPoint, SeesSignal}
pub use Rattle.simulator_move_laws.specs.Telegrams.{AreHeard, aspects_of, commanded, item_of, side_seen}
