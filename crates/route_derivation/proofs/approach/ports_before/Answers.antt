use Rattle.std.proofs.Common.{◌≡◌, ◌≤◌, Some, ap, subst, slice_get, length, arith}
use Rattle.route_derivation.proofs.ApproachLaws.{reached-all, reached-more, reached-few, got-at}
use Rattle.route_derivation.proofs.approach.ports_before.Goals as goal

pub returns-in-None : goal.returns-in-None
returns-in-None c =
    let few = c.in-None.ensures.lookup.3 in
    let e = ap length c.deref.ensures.value in
    let most : length c.loop-index.reached.items ≤ c.loop-index.index = omega (arith, few, e) in
    reached-all c.args.layout.now c.joints.ensures.once c.joints.ensures.station c.args.rule c.args.signal c.args.at c.requires c.loop-index.reached.items c.loop-index.index most c.loop-index.invariant

pub loop-index-preserved : goal.loop-index-preserved
loop-index-preserved c =
    let there = got-at c.deref.result.now c.loop-index.index c.in-Some.port.now c.in-Some.ensures.lookup.3.0 c.in-Some.ensures.lookup.1 in
    let is = subst (λ ps. slice_get ps c.loop-index.index ≡ Some c.in-Some.port.now) c.deref.ensures.value there in
    rw c.in_ok-add_ports.ensures (reached-more c.args.layout.now c.joints.ensures.once c.joints.ensures.station c.args.rule c.args.signal c.args.at c.requires c.loop-index.reached.items c.loop-index.index c.in-Some.port.now is c.loop-index.invariant)

pub returns : goal.returns
returns c =
    let few = reached-few c.args.layout.now c.args.rule c.args.signal c.args.at c.loop-index.reached.items c.loop-index.index c.loop-index.invariant in
    let e = ap length c.joints.ensures.lent in
    let last = c.loop-index-test.false in
    let most : length c.loop-index.reached.items ≤ c.loop-index.index = omega (arith, few, e, last) in
    reached-all c.args.layout.now c.joints.ensures.once c.joints.ensures.station c.args.rule c.args.signal c.args.at c.requires c.loop-index.reached.items c.loop-index.index most c.loop-index.invariant
