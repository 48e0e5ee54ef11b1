use Rattle.std.proofs.Common.{codes, string_bytes}
use Rattle.station_decode.specs.Telegrams.{name_words}
use Rattle.station_decode.proofs.WordsInLine.{names-added}
use Rattle.station_decode.proofs.item.push_telegram.Goals as goal

pub returns : goal.returns
returns c =
    let telegram = c.args.telegram.now in
    let ends = c.args.ends in
    names-added telegram.message (name_words (codes "from") ends.sender.now telegram.sender) (name_words (codes "to") ends.receiver.now telegram.receiver)
    (string_bytes c.args.text.now) _ _ _ c.in_ok-push_message.ensures c.in_ok-push_name.ensures c.in_ok-push_name-2.ensures
