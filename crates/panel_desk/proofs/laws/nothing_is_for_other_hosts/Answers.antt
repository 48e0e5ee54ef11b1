use Rattle.panel_desk.proofs.Commands.{host_is}
use Rattle.panel_desk.proofs.laws.nothing_is_for_other_hosts.Goals as goal

pub returns : goal.returns
returns c site access sent wanted h = host_is site access sent wanted h
