use Rattle.std.proofs.Common.{◌≡◌}
use Rattle.replay_lines.specs.Text.{lines_said, said}
use Rattle.replay_lines.proofs.LinesKept.{behind}
use Rattle.replay_lines.proofs.text.read_lines.Given as goal

-- what was kept so far, and after it what the lines say that are left
abbrev pub invariant-loop-number : goal.invariant-loop-number
invariant-loop-number l = behind l.said.items (said l.table l.said.items l.number-iterator) ≡ lines_said l.table l.fn.text
