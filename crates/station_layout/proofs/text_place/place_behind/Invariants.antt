use Rattle.std.proofs.Common.{◌≡◌, drop}
use Rattle.std.specs.List.{fold}
use Rattle.station_layout.specs.Places.{behind, place_behind}
use Rattle.station_layout.proofs.text_place.place_behind.Given as goal

abbrev pub invariant-loop-byte : goal.invariant-loop-byte
invariant-loop-byte l = fold behind l.at (drop l.byte-index l.text) ≡ place_behind l.text
