-- What a word says by a table of words and values.
use Rattle.std.specs.Borrow.{Bor}
use Rattle.std.specs.Prelude.{ℕ, List, [], ◌∷◌, Result, Ok, Err, if◌then◌else◌}
use Rattle.std.specs.Str.{bytes_eq}
use Rattle.replay_words.specs.declared.fault.Fault.{Fault}
use Rattle.replay_words.specs.declared.fault.Fault.TheVariants.{Words}

abbrev pub word_said : {T : Type 0} → List (Bor (List ℕ) × T) → List ℕ → Result T Fault
word_said [] word = Err Words
word_said (row ∷ rows) word = if bytes_eq word row.0.now then Ok row.1 else word_said rows word
