-- a call of the link
use Rattle.ixl_client.specs.ClientSoFar.{Receives}
use Rattle.ixl_client.proofs.PartsFollow.{called_in}
use Rattle.ixl_client.proofs.end.End.receive.Goals as goal

pub returns-clause-goes : goal.returns-clause-goes
returns-clause-goes c heard = called_in _ _ (Receives c.args.datagram.now) _ _ _ _ _ _ _ heard c.self.view_is c.receive.ensures.link c.receive.ensures.kept c.receive.ensures.posted c.receive.ensures.few
