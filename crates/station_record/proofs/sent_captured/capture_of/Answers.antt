use Rattle.station_record.proofs.Captures.{begins, ends, grows}
use Rattle.station_record.proofs.sent_captured.capture_of.Goals as goal

pub loop-place-init : goal.loop-place-init
loop-place-init c = begins c.args.given.now c.in_ok-file.file.items c.in_ok-file.ensures.exact c.in_ok-file.ensures.is

pub loop-place-preserved : goal.loop-place-preserved
loop-place-preserved c =
    grows c.args.given.now c.args.network.now.sent c.len-place-end.result c.loop-place.place c.loop-place.file.items c.push_sent.new.file.items
    c.len-place-end.ensures.count c.loop-place-test.true c.in_ok-push_sent.ensures.added c.loop-place.invariant

pub returns-clause-is : goal.returns-clause-is
returns-clause-is c =
    ends c.args.given.now c.args.network.now.sent c.len-place-end.result c.loop-place.place c.loop-place.file.items c.len-place-end.ensures.count c.loop-place-test.false c.loop-place.invariant
