use Rattle.simulator_recovery.proofs.Lemmas.Points.SidesDrives.{awaits_report, same_side}
use Rattle.simulator_recovery.proofs.points.driven_points_go_where_routes_want.Goals as goal

pub returns-clause-awaits : goal.returns-clause-awaits
returns-clause-awaits c = λ site table world place to since once station is_table reached few ready drives. awaits_report c.laws_below.ensures site table world place station once is_table reached few ready to since drives

pub returns-clause-side : goal.returns-clause-side
returns-clause-side c = λ site table world place side to since once station is_table reached few ready held drives. same_side c.laws_below.ensures site table world place station once is_table reached few ready to since drives side held
