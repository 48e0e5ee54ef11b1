-- a call of the link
use Rattle.ixl_client.specs.ClientSoFar.{Ticks}
use Rattle.ixl_client.proofs.PartsFollow.{called_in}
use Rattle.ixl_client.proofs.end.End.beat.Goals as goal

pub returns : goal.returns
returns c heard = called_in _ _ Ticks _ _ _ _ _ _ _ heard c.self.view_is c.tick.ensures.link c.tick.ensures.kept c.tick.ensures.posted c.tick.ensures.few
