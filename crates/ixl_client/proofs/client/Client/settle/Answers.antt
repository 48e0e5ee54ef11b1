use Rattle.ixl_client.proofs.Steady.{clocked_client}
use Rattle.ixl_client.proofs.client.Client.settle.Goals as goal

pub invariant_of-self : goal.invariant_of-self
invariant_of-self c = clocked_client _ _ _ c.settle.ensures.client c.settle.ensures.kept c.self.invariant
