use Rattle.embedded_host.proofs.Resting.{rests}
use Rattle.embedded_host.proofs.laws.one_that_starts_rests.Goals as goal

pub returns : goal.returns
returns g c = rests g.C.Controller.behaviour g.met.C.Controller.lawful
