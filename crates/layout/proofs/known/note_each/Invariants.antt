use Rattle.std.proofs.Common.{◌≡◌, ◌+◌, drop}
use Rattle.layout.specs.Known.{note_each}
use Rattle.layout.proofs.known.note_each.Given as goal

abbrev pub invariant-loop-before : goal.invariant-loop-before
invariant-loop-before g l = note_each g.K.PartialEq.eq l.double l.table (l.before + 1) (drop l.before l.keys) l.known.entries ≡ note_each g.K.PartialEq.eq l.double l.table 1 l.keys l.fn.known.entries
