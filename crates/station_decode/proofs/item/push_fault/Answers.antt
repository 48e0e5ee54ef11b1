use Rattle.std.proofs.Common.{◌≡◌, ◌∙◌}
use Rattle.hex.specs.Hex.{encode_lower}
use Rattle.station_decode.proofs.item.push_fault.Goals as goal

pub returns : goal.returns
returns c =
    let digits : c.as_str-digits.result.now ≡ encode_lower c.args.item.now = c.as_str-digits.ensures.value ∙ c.in_ok-digits.ensures in
    rw (← c.telegram_fault_words-fault.ensures, ← digits) c.write.ensures.bytes
