use Rattle.std.proofs.Common.{[], ◌∷◌}
use Rattle.simulator_spec.specs.rasta_core.Links.{LosesAny, without_oldest_of_all}
use Rattle.simulator_spec.specs.Happens.{happens}
use Rattle.simulator_link_laws.proofs.ByKind.{followed}
use Rattle.simulator_link_laws.proofs.Lost.{lost_follows}
use Rattle.simulator_link_laws.proofs.time_and_losses.a_loss_is_one_of_the_links.Goals as goal

pub returns : goal.returns
unfolding happens
returns c = λ site table bytes world before are. followed site (LosesAny bytes ∷ []) (record world { sent = without_oldest_of_all bytes world.sent }) before (lost_follows site world before bytes are)
