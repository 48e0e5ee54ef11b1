use Rattle.std.proofs.Common.{◌≡◌, length, replicate}
use Rattle.replay_lines.specs.Names.{node_names}
use Rattle.replay_lines.specs.Events.{steps_set}
use Rattle.replay_lines.proofs.words.steps.Given as goal

-- what the words that are left make of the steps so far is what all words make
abbrev pub invariant-loop-word : goal.invariant-loop-word
invariant-loop-word l =
    steps_set l.layout l.word-iterator l.steps.items ≡ steps_set l.layout l.fn.words (replicate (length (node_names l.layout)) l.elapsed)
