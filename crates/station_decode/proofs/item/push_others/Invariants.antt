use Rattle.std.proofs.Common.{◌≡◌, ◌++◌, drop, string_bytes}
use Rattle.station_decode.specs.Datagrams.{others_text}
use Rattle.station_decode.proofs.item.push_others.Given as goal

-- what was added so far, and after it the items that are left
abbrev pub invariant-loop-item : goal.invariant-loop-item
invariant-loop-item l =
    string_bytes l.text ++ others_text l.ends.sender.now l.ends.receiver.now (drop l.item-index l.others)
    ≡ string_bytes l.fn.text ++ others_text l.ends.sender.now l.ends.receiver.now l.fn.others
