use Rattle.route_lock.proofs.KeptLaws.{get-at, none-more, none-at-all}
use Rattle.route_lock.proofs.locks.first_fault.Goals as goal

pub returns-in-Some-clause-some : goal.returns-in-Some-clause-some
returns-in-Some-clause-some c =
    (record { 0 = c.loop-index.index }, c.index-locks-index.result, get-at c.args.locks.now c.loop-index.index c.index-locks-index.result c.loop-index-test.true c.index-locks-index.is, c.in-Some.ensures.some, c.loop-index.invariant)

pub loop-index-preserved : goal.loop-index-preserved
loop-index-preserved c =
    let at = get-at c.args.locks.now c.loop-index.index c.index-locks-index.result c.loop-index-test.true c.index-locks-index.is in
    none-more c.args.locks.now c.args.need.now c.loop-index.index c.index-locks-index.result at c.in_default.ensures.none c.loop-index.invariant

pub returns-clause-none : goal.returns-clause-none
returns-clause-none c = none-at-all c.args.locks.now c.args.need.now c.loop-index.index c.loop-index-test.false c.loop-index.invariant
