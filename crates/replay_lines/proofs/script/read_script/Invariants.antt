use Rattle.std.proofs.Common.{◌≡◌}
use Rattle.replay_lines.specs.Script.{script, script_from}
use Rattle.replay_lines.proofs.SessionsKept.{behind}
use Rattle.replay_lines.proofs.script.read_script.Given as goal

-- what was kept so far, and after it what the lines say that are left, whose times don't lie before the latest
abbrev pub invariant-loop-number : goal.invariant-loop-number
invariant-loop-number l = behind l.events.items (script_from l.table l.latest l.number-iterator) ≡ script l.table l.fn.text
