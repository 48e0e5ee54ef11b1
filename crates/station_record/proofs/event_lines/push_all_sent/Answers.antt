use Rattle.std.proofs.Common.{string_bytes}
use Rattle.station_record.proofs.Places.{all_told, one_more}
use Rattle.station_record.proofs.event_lines.push_all_sent.Goals as goal

pub loop-place-preserved : goal.loop-place-preserved
loop-place-preserved c =
    one_more c.args.layout.now c.args.network.now.sent c.loop-place.place (string_bytes c.loop-place.text) (string_bytes c.push_sent.new.text) _
    c.in_ok-push_sent.ensures c.loop-place.invariant

pub returns : goal.returns
returns c =
    all_told c.args.layout.now c.args.network.now.sent c.len-place-end.result c.loop-place.place (string_bytes c.loop-place.text) _
    c.len-place-end.ensures.count c.loop-place-test.false c.loop-place.invariant
