use Rattle.std.proofs.Common.{◌≡◌, ◌++◌, drop, string_bytes}
use Rattle.simulator_spec.specs.Picture.{signal_lines}
use Rattle.simulator_spec.specs.Interlocking.{held_of}
use Rattle.simulator.proofs.picture.push_signals.Given as goal

-- what was added so far, and after it the lines that are left
abbrev pub invariant-loop-place : goal.invariant-loop-place
invariant-loop-place l =
    let held = held_of l.world.sited.table l.world.run.interlocking l.world.run.frozen
    in let site = l.world.sited.site
    in string_bytes l.text ++ signal_lines site held l.place (drop l.place site.signals) (drop l.place l.world.run.signals)
    ≡ string_bytes l.fn.text ++ signal_lines site held 0 site.signals l.world.run.signals
