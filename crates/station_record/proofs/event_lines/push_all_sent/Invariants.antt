use Rattle.std.proofs.Common.{◌≡◌, ◌++◌, string_bytes}
use Rattle.station_record.specs.Lines.{lines_text}
use Rattle.station_record.specs.Traffic.{sent_behind}
use Rattle.station_record.proofs.event_lines.push_all_sent.Given as goal

-- what was added so far, and after it the lines of the places that are left
abbrev pub invariant-loop-place : goal.invariant-loop-place
invariant-loop-place l =
    string_bytes l.text ++ lines_text l.layout (sent_behind l.place l.network.sent)
    ≡ string_bytes l.fn.text ++ lines_text l.layout (sent_behind l.count l.network.sent)
