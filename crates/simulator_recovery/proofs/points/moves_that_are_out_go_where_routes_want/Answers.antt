use Rattle.simulator_recovery.proofs.Lemmas.Points.SidesMoves.{moves_go}
use Rattle.simulator_recovery.proofs.points.moves_that_are_out_go_where_routes_want.Goals as goal

pub returns : goal.returns
returns c = λ site table world station once is_table reached. moves_go c.laws_below.ensures site table station once is_table world reached
