use Rattle.std.proofs.Common.{◌≡◌, length}
use Rattle.replay_lines.specs.Events.{name_nodes}
use Rattle.replay_lines.proofs.words.check_names.Given as goal

-- the words so far name nodes, and no word after them the same, so the words that are left decide
abbrev pub invariant-loop-word : goal.invariant-loop-word
invariant-loop-word l = name_nodes l.layout l.words ≡ name_nodes l.layout l.fn.words

abbrev pub decreases-loop-word : goal.decreases-loop-word
decreases-loop-word l = length l.words
