use Rattle.std.proofs.Common.{◌≡◌, ◌+◌, drop}
use Rattle.run_files.specs.inside.Pieces.{piece}
use Rattle.run_files.proofs.piece.piece.Given as goal

-- the bytes so far go to the part
abbrev pub invariant-loop-place : goal.invariant-loop-place
invariant-loop-place l = piece l.missing l.bytes ≡ l.place + piece l.left (drop l.place l.bytes)
