use Rattle.panel_desk.proofs.Commands.{comes}
use Rattle.panel_desk.proofs.laws.commands_come_from_the_page.Goals as goal

pub returns : goal.returns
returns c site access sent command h = comes site access sent command h
