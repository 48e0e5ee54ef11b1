use Rattle.std.proofs.Common.{◌≡◌, ◌++◌, drop, map}
use Rattle.serde_json.specs.View.{view}
use Rattle.panel_desk.specs.State.{newer}
use Rattle.panel_desk.proofs.json.changed.Given as goal

-- what is lacking of the lines so far, and of those that are left
abbrev pub invariant-loop-place : goal.invariant-loop-place
invariant-loop-place l = map view l.pairs.items ++ newer l.after l.place (drop l.place l.shown) ≡ newer l.after 0 l.shown
