use Rattle.std.proofs.Common.{◌≡◌, drop}
use Rattle.control_table.specs.inside.TableTests.{no_other_at}
use Rattle.control_table.proofs.signals.no_other_at.Given as goal

abbrev pub invariant-loop-place : goal.invariant-loop-place
invariant-loop-place l = no_other_at l.place (drop l.place l.signals) l.exit l.port ≡ no_other_at 0 l.signals l.exit l.port
