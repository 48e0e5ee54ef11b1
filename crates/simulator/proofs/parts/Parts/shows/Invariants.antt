use Rattle.std.proofs.Common.{◌≡◌, length, map, take}
use Rattle.simulator_spec.specs.Seen.{as_shown}
use Rattle.simulator.proofs.parts.Parts.shows.Given as goal

abbrev pub invariant-loop-place : goal.invariant-loop-place
invariant-loop-place l = record {
  long : length l.shows.items ≡ l.place;
  made : l.shows.items ≡ map as_shown (take l.place l.self.field.signals.items);
}
