use Rattle.std.proofs.Common.{◌≡◌, length}
use Rattle.std.specs.List.{list_any}
use Rattle.replay_words.specs.Cut.{words, is_equals, behind_equals}
use Rattle.replay_words.proofs.cut.event_and_answer.Given as goal

-- no word so far was `=`, so the words that are left decide
abbrev pub invariant-loop-word : goal.invariant-loop-word
invariant-loop-word l =
    (list_any is_equals l.words ≡ list_any is_equals (words l.line))
    × (behind_equals l.words ≡ behind_equals (words l.line))

abbrev pub decreases-loop-word : goal.decreases-loop-word
decreases-loop-word l = length l.words
