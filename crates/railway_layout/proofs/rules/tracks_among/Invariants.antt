use Rattle.std.proofs.Common.{◌≡◌, drop}
use Rattle.railway_layout.specs.Rules.{tracks_among}
use Rattle.railway_layout.proofs.rules.tracks_among.Given as goal

abbrev pub invariant-loop-place : goal.invariant-loop-place
invariant-loop-place l = tracks_among l.way l.section l.place (drop l.place l.tracks) ≡ tracks_among l.way l.section 0 l.tracks
