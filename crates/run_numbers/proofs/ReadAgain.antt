-- The words of a number's line say it again.
use Rattle.std.proofs.Common.{◌≡◌, ◌<◌, ◌^◌, ◌∙◌, ℕ, ◌&&◌, true, List, [], ◌∷◌, codes, length, Result, Ok, refl, ap, arith}
use Rattle.std.specs.Fmt.{decimal as written}
use Rattle.std.specs.List.{join_with_byte}
use Rattle.replay_words.specs.Cut.{words}
use Rattle.replay_words.specs.Fault.{◌>>=◌}
use Rattle.replay_words.specs.Read.{decimal}
use Rattle.replay_words.specs.Words.{are_words, is_without}
use Rattle.replay_words.specs.declared.fault.Fault.{Fault}
use Rattle.run_numbers.specs.Lines.{number_said, number_text, number_words}
use Rattle.run_numbers.specs.Rows.{label_of, name_of}
use Rattle.run_numbers.specs.declared.row.Row.{Row}
use Rattle.run_numbers.proofs.Table.{label_is_word, name_is_word, row_read}

-- what the crates below say of words and numbers
pub record Reads : Type 0 where
  pub joined : (ws : List (List ℕ)) → 0 < length ws → are_words ws ≡ true → words (join_with_byte 32 ws) ≡ ws
  pub number : (n : ℕ) → n < 2 ^ 64 → decimal (written n) ≡ Ok n
  pub number_word : (n : ℕ) → n < 2 ^ 64 → is_without 32 (written n) ≡ true

one_more : (w : List ℕ) (ws : List (List ℕ)) → is_without 32 w ≡ true → are_words ws ≡ true → are_words (w ∷ ws) ≡ true
one_more w ws e f = ap (λ v. v && are_words ws) e ∙ f

module _ (reads : Reads) where
  are : (row : Row) (value : ℕ) → value < 2 ^ 64 → are_words (number_words row value) ≡ true
  are row value small =
      one_more (codes "number") (name_of row ∷ label_of row ∷ written value ∷ []) refl
      (one_more (name_of row) (label_of row ∷ written value ∷ []) (name_is_word row)
      (one_more (label_of row) (written value ∷ []) (label_is_word row) (one_more (written value) [] (reads.number_word value small) refl)))

  pub words_are : (row : Row) (value : ℕ) → value < 2 ^ 64 → words (number_text row value) ≡ number_words row value
  words_are row value small = reads.joined (number_words row value) (omega arith) (are row value small)

  pub number_read : (row : Row) (value : ℕ) → value < 2 ^ 64 → number_said (words (number_text row value)) ≡ Ok (row, value)
  number_read row value small =
      ap number_said (words_are row value small)
      ∙ ap (λ (r : Result Row Fault). r >>= (λ (one : Row). decimal (written value) >>= (λ (n : ℕ). Ok (one, n)))) (row_read row)
      ∙ ap (λ (r : Result ℕ Fault). r >>= (λ (n : ℕ). Ok (row, n))) (reads.number value small)
