use Rattle.std.proofs.Common.{◌≡◌, drop}
use Rattle.control_table.specs.inside.TableTests.{passages}
use Rattle.control_table.proofs.Loops.{with_front}
use Rattle.control_table.proofs.passage.passages.Given as goal

abbrev pub invariant-loop-left : goal.invariant-loop-left
invariant-loop-left l =
    with_front l.passages.items (passages l.place l.joints l.before (drop l.left-index l.path)) ≡ passages l.place l.joints l.fn.start l.path
