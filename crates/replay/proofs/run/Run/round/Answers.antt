use Rattle.replay.specs.inside.Runs.{flowing_of}
use Rattle.replay.proofs.EventAnswers.{on_err}
use Rattle.replay.proofs.Rounds.{none_did}
use Rattle.replay.proofs.run.Run.round.Goals as goal

pub returns-in_err-due-clause-err : goal.returns-in_err-due-clause-err
returns-in_err-due-clause-err c = on_err c.from_residual.result (0, none_did (flowing_of c.args.self.now))
