use Rattle.line_host.proofs.Staying.{call_stays}
use Rattle.line_host.proofs.talk.Talk.receive.Goals as goal

pub returns-clause-stays : goal.returns-clause-stays
returns-clause-stays c = call_stays _ _ _ _ _ _ _ _ c.self.view_is c.receive.ensures.link c.receive.ensures.kept c.receive.ensures.posted c.receive.ensures.few
