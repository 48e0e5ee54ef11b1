use Rattle.line_host.proofs.Staying.{call_stays}
use Rattle.line_host.proofs.talk.Talk.send.Goals as goal

pub returns-clause-stays : goal.returns-clause-stays
returns-clause-stays c = call_stays _ _ _ _ _ _ _ _ c.self.view_is c.send.ensures.link c.send.ensures.kept c.send.ensures.posted c.send.ensures.few
