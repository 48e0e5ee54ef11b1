use Rattle.std.proofs.Common.{◌≡◌, drop}
use Rattle.layout.specs.Known.{note_all}
use Rattle.layout.proofs.known.note_all.Given as goal

abbrev pub invariant-loop-key : goal.invariant-loop-key
invariant-loop-key g l = note_all g.K.PartialEq.eq l.double l.place (drop l.key-index l.keys) l.known.entries ≡ note_all g.K.PartialEq.eq l.double l.place l.keys l.fn.known.entries
