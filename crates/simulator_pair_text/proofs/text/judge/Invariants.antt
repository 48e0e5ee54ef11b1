use Rattle.std.proofs.Common.{◌≡◌}
use Rattle.std.specs.List.{enumerate_from}
use Rattle.replay_words.specs.Cut.{lines}
use Rattle.simulator_pair_text.specs.Text.{said}
use Rattle.simulator_pair_text.proofs.Judged.{verdict}
use Rattle.simulator_pair_text.proofs.text.judge.Given as goal

-- the lines so far are without a fault, so the verdict on those that are left is the verdict on all
abbrev pub invariant-loop-number : goal.invariant-loop-number
invariant-loop-number l = verdict (said l.number-iterator) ≡ verdict (said (enumerate_from 1 (lines l.fn.text)))
