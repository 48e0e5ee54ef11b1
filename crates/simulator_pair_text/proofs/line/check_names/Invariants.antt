use Rattle.std.proofs.Common.{◌≡◌}
use Rattle.replay_words.specs.Fault.{both}
use Rattle.simulator_pair_text.specs.Line.{names}
use Rattle.simulator_pair_text.proofs.Names.{emptied}
use Rattle.simulator_pair_text.proofs.line.check_names.Given as goal

-- what was found so far, beside what the words that are left have
abbrev pub invariant-loop-word : goal.invariant-loop-word
invariant-loop-word l = emptied (both l.lowest (names l.word-iterator)) ≡ names l.fn.words
