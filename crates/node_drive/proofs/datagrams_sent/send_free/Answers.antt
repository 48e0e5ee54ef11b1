use Rattle.std.proofs.Common.{◌∙◌, map, length, ap, arith}
use Rattle.node_drive.specs.Inside.{waiting_of_code}
use Rattle.node_drive.proofs.Sending.{release_all, release_more, release_none}
use Rattle.node_drive.proofs.datagrams_sent.send_free.Goals as goal

pub loop-one-init : goal.loop-one-init
loop-one-init g c = release_none c.args.reading c.args.in_force _ _

pub loop-one-preserved : goal.loop-one-preserved
loop-one-preserved g c =
    let first = c.in-Some.ensures.some in
    release_more c.args.reading c.args.in_force (waiting_of_code c.in-Some.one) c.loop-one.invariant (ap (map waiting_of_code) first.0) first.1 c.send_fresh.ensures

pub loop-one-smaller : goal.loop-one-smaller
loop-one-smaller g c =
    let first = ap length c.in-Some.ensures.some.0 in
    omega (arith, first)

pub returns-clause-done : goal.returns-clause-done
returns-clause-done g c = release_all c.args.reading c.args.in_force c.loop-one.invariant c.in_default.ensures.none.0

pub returns-clause-waiting : goal.returns-clause-waiting
returns-clause-waiting g c = c.in_default.ensures.none.1 ∙ c.loop-one.invariant.waiting_is
