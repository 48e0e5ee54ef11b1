use Rattle.std.proofs.Common.{◌≡◌, length, map, take}
use Rattle.simulator_spec.specs.Refusals.{driven_by}
use Rattle.simulator.proofs.parts.Parts.drives.Given as goal

abbrev pub invariant-loop-place : goal.invariant-loop-place
invariant-loop-place l = record {
  long : length l.drives.items ≡ l.place;
  made : l.drives.items ≡ map driven_by (take l.place l.self.field.points.items);
}
