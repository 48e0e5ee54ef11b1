use Rattle.replay.proofs.Rounds.{reaches-add, reaches-all}
use Rattle.replay.proofs.due.add_reaches.Goals as goal

pub loop-place-preserved : goal.loop-place-preserved
loop-place-preserved c =
    reaches-add c.args.passed c.loop-place.place c.args.drives.now _ c.loop-place.due.items c.add_reach.new.due.items _ c.loop-place-test.true c.in_ok-add_reach.ensures c.loop-place.invariant

pub returns : goal.returns
returns c = reaches-all c.args.passed c.loop-place.place c.args.drives.now c.loop-place.due.items _ c.loop-place-test.false c.loop-place.invariant
