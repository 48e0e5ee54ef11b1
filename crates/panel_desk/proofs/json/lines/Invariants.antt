use Rattle.std.proofs.Common.{◌≡◌, ◌++◌, drop, map}
use Rattle.serde_json.specs.View.{view}
use Rattle.panel_desk.specs.State.{newer_lines}
use Rattle.panel_desk.proofs.json.lines.Given as goal

-- what is lacking of the lines so far, and of those that are left
abbrev pub invariant-loop-line : goal.invariant-loop-line
invariant-loop-line l = map view l.lines.items ++ newer_lines l.after (drop l.line-index l.log) ≡ newer_lines l.after l.log
