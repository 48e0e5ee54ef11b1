use Rattle.std.proofs.Common.{◌≡◌, ◌++◌, codes, drop, string_bytes}
use Rattle.std.specs.Fmt.{decimal}
use Rattle.replay_lines.specs.Names.{node_names}
use Rattle.replay_lines.specs.inside.Clocks.{clock_texts}
use Rattle.replay_lines.proofs.lines_written.time_line.Given as goal

-- what was written so far, and the clocks that are left
abbrev pub invariant-loop-place : goal.invariant-loop-place
invariant-loop-place l =
    string_bytes l.line ++ clock_texts (node_names l.layout) l.elapsed l.place (drop l.place l.steps)
    ≡ (codes "time " ++ decimal l.elapsed) ++ clock_texts (node_names l.layout) l.elapsed 0 l.steps
