use Rattle.ixl_client.proofs.PartsFollow.{called_in}
use Rattle.ixl_client.specs.ClientSoFar.{Closes}
use Rattle.ixl_client.proofs.end.End.close.Goals as goal

pub returns : goal.returns
returns c heard = called_in _ _ (Closes c.args.why) _ _ _ _ _ _ _ heard c.self.view_is c.close.ensures.link c.close.ensures.kept c.close.ensures.posted c.close.ensures.few
