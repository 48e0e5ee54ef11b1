use Rattle.std.proofs.Common.{◌≡◌, drop}
use Rattle.station_layout.specs.inside.WordTables.{word_said}
use Rattle.station_layout.proofs.sighting.word_said.Given as goal

abbrev pub invariant-loop-known : goal.invariant-loop-known
invariant-loop-known g l = word_said (drop l.known-index l.rows) l.word ≡ word_said l.rows l.word
