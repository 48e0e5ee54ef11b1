use Rattle.std.proofs.Common.{string_bytes}
use Rattle.station_decode.specs.Datagrams.{other_text}
use Rattle.station_decode.proofs.WordsInLine.{all-added, one-added}
use Rattle.station_decode.proofs.item.push_others.Goals as goal

pub loop-item-preserved : goal.loop-item-preserved
loop-item-preserved c =
    let ends = c.args.ends in
    one-added (other_text ends.sender.now ends.receiver.now) c.args.others.now c.loop-item.item-index c.item-item.result (string_bytes c.loop-item.text) _ _
    c.loop-item-test.true c.item-item.is c.in_ok-push_other.ensures c.loop-item.invariant

pub returns : goal.returns
returns c =
    let ends = c.args.ends in
    all-added (other_text ends.sender.now ends.receiver.now) c.args.others.now c.loop-item.item-index (string_bytes c.loop-item.text) _ c.loop-item-test.false c.loop-item.invariant
