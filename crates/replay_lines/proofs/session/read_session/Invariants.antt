use Rattle.std.proofs.Common.{◌≡◌}
use Rattle.replay_lines.specs.Session.{entries, session}
use Rattle.replay_lines.proofs.SessionsKept.{behind}
use Rattle.replay_lines.proofs.session.read_session.Given as goal

-- what was kept so far, and after it what the lines say that are left
abbrev pub invariant-loop-number : goal.invariant-loop-number
invariant-loop-number l = behind l.entries.items (entries l.table l.number-iterator) ≡ session l.table l.fn.text
