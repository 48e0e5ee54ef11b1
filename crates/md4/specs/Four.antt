-- Four steps of a round at once, over words that have the round's constant in them: what the clauses
-- of the code's parts cite. The definition of the digest, in Md4, rests on none of it.
use Rattle.std.specs.Prelude.{ℕ, ◌+◌, ◌%◌, ◌^◌, List, ◌∷◌, map, slice_index}
use Rattle.std.specs.Int.{w32, rotate_left}
use Rattle.md4.specs.Md4.{Round}

-- words with a constant added to each
abbrev pub raised : ℕ → List ℕ → List ℕ
raised constant words = map (λ word. (word + constant) % 2 ^ 32) words

-- the sequence with the word of one step more, from a word that has the round's constant in it
abbrev pub with_raised : Round → ℕ → ℕ → List ℕ → List ℕ
with_raised round word shift words =
    rotate_left w32
    ((slice_index words 3 + round.mix (slice_index words 0) (slice_index words 1) (slice_index words 2) + word) % 2 ^ 32)
    shift
    ∷ words

-- the sequence with the words of four steps more, by the round's four shifts in turn
abbrev pub with_four : Round → List ℕ → List ℕ → List ℕ
with_four round four words =
    with_raised round (slice_index four 3) (slice_index round.shifts 3)
    (with_raised round (slice_index four 2) (slice_index round.shifts 2)
    (with_raised round (slice_index four 1) (slice_index round.shifts 1)
    (with_raised round (slice_index four 0) (slice_index round.shifts 0) words)))
