use Rattle.std.proofs.Common.{refl}
use Rattle.node_panel.specs.Panels.{no_panel, no_table}
use Rattle.node_panel.proofs.command.panel_of_node.Goals as goal

pub returns-in-Err-clause-explains : goal.returns-in-Err-clause-explains
returns-in-Err-clause-explains g c = λ one. no_table c.in-Err.failure c.in-Err.ensures.explains refl c.tell.ensures.told

pub returns-in-Ok-open-clause-done : goal.returns-in-Ok-open-clause-done
returns-in-Ok-open-clause-done g c = λ zero. (c.in-Ok.table, c.in-Ok.ensures.sound, c.in-Ok-open.ensures)

pub returns-clause-explains : goal.returns-clause-explains
returns-clause-explains g c = λ one. no_panel c.in-Ok.table c.in-Ok.ensures.sound c.in-Err-open.failure c.tell-in-Err-open.ensures
