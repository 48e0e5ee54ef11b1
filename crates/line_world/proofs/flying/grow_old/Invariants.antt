use Rattle.std.proofs.Common.{◌≡◌, ◌≤◌, ◌-◌, ◌++◌, drop, length, take}
use Rattle.std.specs.Vec.{vec_capacity, vec_len}
use Rattle.line_world.specs.Happens.{still_flying}
use Rattle.line_world.proofs.flying.grow_old.Given as goal

abbrev pub invariant-loop-place : goal.invariant-loop-place
invariant-loop-place l =
    (take l.place l.flying.items ++ still_flying l.elapsed (drop l.place l.flying.items) ≡ still_flying l.elapsed l.initial.flying.items)
    × (l.place ≤ vec_len l.flying)
    × (vec_len l.flying ≤ vec_len l.initial.flying)
    × (vec_capacity l.flying ≡ vec_capacity l.initial.flying)

abbrev pub decreases-loop-place : goal.decreases-loop-place
decreases-loop-place l = vec_len l.flying - l.place
