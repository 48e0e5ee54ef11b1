use Rattle.rasta_core.proofs.Projection.{other_delivery, own_delivery}
use Rattle.rasta_core.proofs.many_links.each_delivery_is_seen.Goals as goal

pub returns-clause-own : goal.returns-clause-own
returns-clause-own c = own_delivery

pub returns-clause-others : goal.returns-clause-others
returns-clause-others c = other_delivery
