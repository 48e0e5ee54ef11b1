use Rattle.std.proofs.Common.{refl}
use Rattle.point_ctl.specs.Drive.{made}
use Rattle.point_ctl.specs.History.{begun_at}
use Rattle.point_ctl.proofs.Once.{answers_once}
use Rattle.point_ctl.proofs.laws.answers_each_move_once.Goals as goal

pub returns-clause-every : goal.returns-clause-every
returns-clause-every c = λ calls sensed. answers_once calls (begun_at (made sensed)) (record { each = refl; last = tt })

pub returns-clause-kept : goal.returns-clause-kept
returns-clause-kept c = answers_once
