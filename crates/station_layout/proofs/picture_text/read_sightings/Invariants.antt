use Rattle.std.proofs.Common.{◌≡◌}
use Rattle.std.specs.List.{enumerate_from}
use Rattle.replay_words.specs.Cut.{lines}
use Rattle.station_layout.specs.Sightings.{said}
use Rattle.station_layout.proofs.LinesKept.{behind}
use Rattle.station_layout.proofs.picture_text.read_sightings.Given as goal

-- what was kept so far, and after it what the lines say that are left
abbrev pub invariant-loop-number : goal.invariant-loop-number
invariant-loop-number l = behind l.said.items (said l.table l.number-iterator) ≡ said l.table (enumerate_from 1 (lines l.fn.text))
