use Rattle.embedded_host.proofs.Counted.{follows_what_counts}
use Rattle.embedded_host.proofs.laws.the_equipment_follows_what_counts.Goals as goal

pub returns : goal.returns
returns g c = λ calls it. follows_what_counts g.C.Controller.behaviour calls it
