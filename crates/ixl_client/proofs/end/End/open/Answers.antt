-- a call of the link
use Rattle.ixl_client.specs.ClientSoFar.{Opens}
use Rattle.ixl_client.proofs.PartsFollow.{called_in}
use Rattle.ixl_client.proofs.end.End.open.Goals as goal

pub returns : goal.returns
returns c heard = called_in _ _ Opens _ _ _ _ _ _ _ heard c.self.view_is c.open.ensures.link c.open.ensures.kept c.open.ensures.posted c.open.ensures.few
