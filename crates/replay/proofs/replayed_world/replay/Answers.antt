use Rattle.replay.proofs.Verdicts.{told_differs, told_same}
use Rattle.replay.specs.World.{played}
use Rattle.replay.proofs.replayed_world.replay.Goals as goal

pub returns-clause-same : goal.returns-clause-same
returns-clause-same c =
    let world = c.in_ok-world.world
    in told_same c.args.checked (played world) c.args.entries.now c.replay.result c.in_ok-world.ensures c.replay.ensures

pub returns-clause-differs : goal.returns-clause-differs
returns-clause-differs c =
    let world = c.in_ok-world.world
    in told_differs c.args.checked (played world) c.args.entries.now c.replay.result c.in_ok-world.ensures c.replay.ensures
