use Rattle.node_kinds.specs.Made.{equipment_of}
use Rattle.node_kinds.specs.Openings.{opening_kind, untold}
use Rattle.node_kinds.specs.node_drive.Beginning.{first_course}
use Rattle.station_node.specs.Processes.{standing}
use Rattle.station_node.proofs.Lived.{any_err, cut_at_once}
use Rattle.station_node.proofs.lives.open.Goals as goal

pub returns-in_err-opening-clause-stopped : goal.returns-in_err-opening-clause-stopped
returns-in_err-opening-clause-stopped g c = any_err c.from_residual.result
    (cut_at_once opening_kind c.args.told.life.for_ms c.args.told.life.begins (standing (untold c.args.told.table.now (equipment_of c.args.equipment)) first_course) (g.O.Outside.told c.args.outside.now))
