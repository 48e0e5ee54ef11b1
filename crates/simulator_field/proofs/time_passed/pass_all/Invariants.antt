use Rattle.std.proofs.Common.{◌≡◌, length}
use Rattle.simulator_field.proofs.Later.{so_far}
use Rattle.simulator_field.proofs.time_passed.pass_all.Given as goal

abbrev pub invariant-loop-place : goal.invariant-loop-place
invariant-loop-place g l = record {
  items : l.servers.items ≡ so_far l.moment l.steps l.place l.initial.servers.items;
  each : length l.servers.items ≡ length l.initial.servers.items;
}
