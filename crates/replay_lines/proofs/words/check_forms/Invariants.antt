use Rattle.std.proofs.Common.{◌≡◌}
use Rattle.replay_lines.specs.Events.{are_formed}
use Rattle.replay_lines.proofs.words.check_forms.Given as goal

-- the words so far are formed, so the words that are left decide
abbrev pub invariant-loop-word : goal.invariant-loop-word
invariant-loop-word l = are_formed l.word-iterator ≡ are_formed l.fn.words
