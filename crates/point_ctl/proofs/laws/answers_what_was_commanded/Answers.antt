use Rattle.point_ctl.specs.Drive.{made}
use Rattle.point_ctl.specs.History.{begun_at}
use Rattle.point_ctl.proofs.Commanded.{answers_commanded}
use Rattle.point_ctl.proofs.laws.answers_what_was_commanded.Goals as goal

pub returns-clause-every : goal.returns-clause-every
returns-clause-every c = λ calls sensed moved. answers_commanded calls (begun_at (made sensed)) moved (record { reported = tt })

pub returns-clause-kept : goal.returns-clause-kept
returns-clause-kept c = answers_commanded
