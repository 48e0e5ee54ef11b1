use Rattle.std.proofs.Common.{◌≡◌, ◌++◌}
use Rattle.std.specs.Option.{option_to_list, option_copied}
use Rattle.simulator_pair_text.specs.Line.{numbers_for}
use Rattle.simulator_pair_text.proofs.line.clock.Given as goal

-- the number found so far, before those in the words that are left
abbrev pub invariant-loop-word : goal.invariant-loop-word
invariant-loop-word l = option_to_list (option_copied l.sole) ++ numbers_for l.end l.word-iterator ≡ numbers_for l.fn.end l.fn.words
