use Rattle.std.proofs.Common.{◌≡◌, length, map, take}
use Rattle.simulator_spec.specs.Seen.{as_stands}
use Rattle.simulator.proofs.parts.Parts.stands.Given as goal

abbrev pub invariant-loop-place : goal.invariant-loop-place
invariant-loop-place l = record {
  long : length l.stands.items ≡ l.place;
  made : l.stands.items ≡ map as_stands (take l.place l.self.field.positions.items);
}
