use Rattle.std.proofs.Common.{◌≡◌}
use Rattle.std.specs.List.{list_any}
use Rattle.replay_lines.specs.Events.{has_name}
use Rattle.replay_lines.proofs.words.is_named.Given as goal

-- no word so far has the name, so the words that are left decide
abbrev pub invariant-loop-word : goal.invariant-loop-word
invariant-loop-word l = list_any (has_name l.name) l.word-iterator ≡ list_any (has_name l.name) l.fn.words
