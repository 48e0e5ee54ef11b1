use Rattle.replay.specs.inside.Runs.{flowing_of}
use Rattle.replay.proofs.Rounds.{did-next, none_did}
use Rattle.replay.proofs.run.Run.apply_all.Goals as goal

pub loop-one-init : goal.loop-one-init
loop-one-init c = none_did (flowing_of c.args.self.now)

pub loop-one-preserved : goal.loop-one-preserved
loop-one-preserved c =
    did-next c.args.due.now c.loop-one.one-index c.one-item.result (flowing_of c.args.self.now) (flowing_of c.loop-one.self) (flowing_of c.apply.new.self)
    c.loop-one-test.true c.one-item.is c.loop-one.invariant c.in_ok-apply.ensures.ok
