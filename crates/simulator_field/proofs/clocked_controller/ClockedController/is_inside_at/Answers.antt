use Rattle.std.proofs.Common.{sym, ◌∙◌, rules}
use Rattle.simulator_field.proofs.Inside.{inside_while_alive, outside_where_closed}
use Rattle.simulator_field.proofs.clocked_controller.ClockedController.is_inside_at.Goals as goal

pub returns-then-is_open : goal.returns-then-is_open
returns-then-is_open g c = inside_while_alive c.args.clock c.alive_until.result c.args.self.now.host.link c.ranges.clock.fits (search rules) (search rules)

pub returns-else-is_open : goal.returns-else-is_open
returns-else-is_open g c = outside_where_closed c.args.clock c.args.self.now.host.link c.is_open.result (search rules) (search rules)
