use Rattle.std.proofs.Common.{◌≡◌, ◌++◌, drop}
use Rattle.std.specs.Prelude.{slice_get}
use Rattle.node_kinds.specs.Interlockings.{changes, last_told, news, of_each}
use Rattle.node_kinds.specs.inside.InterlockingSteps.{texts}
use Rattle.node_kinds.proofs.changes.say_changes.Given as goal

-- the lines so far, and after them those of the things that are left
abbrev pub invariant-loop-place : goal.invariant-loop-place
invariant-loop-place l =
    texts l.said ++ of_each (λ place one. news l.layout (last_told (slice_get l.told place)) one) l.place (drop l.place l.all) ≡ texts l.initial.said ++ changes l.layout l.told l.all
