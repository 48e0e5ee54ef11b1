use Rattle.std.proofs.Common.{refl}
use Rattle.ixl_client.proofs.Steady.{made_client}
use Rattle.ixl_client.proofs.client.Client.new.Goals as goal

pub invariant_of-result : goal.invariant_of-result
invariant_of-result c = made_client _ _ _ _ _ refl c.in_ok-link.ensures
