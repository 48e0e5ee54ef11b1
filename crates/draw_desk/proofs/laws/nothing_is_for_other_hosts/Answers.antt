use Rattle.draw_desk.proofs.Comes.{host_is}
use Rattle.draw_desk.proofs.laws.nothing_is_for_other_hosts.Goals as goal

pub returns : goal.returns
returns c access sent wanted h = host_is access sent wanted h
