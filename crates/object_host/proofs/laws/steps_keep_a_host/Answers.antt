-- the law of the object keeps what is always true of its host
use Rattle.std.proofs.Common.{refl}
use Rattle.object_host.proofs.Between.{clocked_right, new_hosted, of_hosted, step_hosted}
use Rattle.object_host.proofs.laws.steps_keep_a_host.Goals as goal

pub returns-clause-new : goal.returns-clause-new
unfolding Rattle.object_host.specs.Hosted.new_host Rattle.object_host.specs.Host.keeping
returns-clause-new g c = λ identity own_name peer_name first now object version.
    new_hosted g.C.Controller.behaviour g.met.C.Controller.lawful identity first now _ _ own_name peer_name version object _ _ refl refl refl refl

pub returns-clause-hosted : goal.returns-clause-hosted
returns-clause-hosted g c = step_hosted g.C.Controller.behaviour g.met.C.Controller.lawful

pub returns-clause-steady : goal.returns-clause-steady
returns-clause-steady g c = of_hosted g.C.Controller.behaviour g.met.C.Controller.lawful

pub returns-clause-clocked : goal.returns-clause-clocked
returns-clause-clocked g c = clocked_right g.C.Controller.behaviour g.met.C.Controller.lawful
