-- Sections one after another.
use Rattle.std.proofs.Common.{◌≡◌, ℕ, ◌+◌, ◌<◌, List, [], ◌∷◌, ◌++◌, length, take, drop, slice_set, sym, ap, ◌∙◌, append_assoc, length-set}
use Rattle.std.proofs.lemmas.List.{append-nil, take_more_set}
use Rattle.sci_telegram.specs.declared.message.Occupancy.{Occupancy}
use Rattle.controllers_c.specs.Sections.{spelled, spelled_all}

pub spelled_more : (sections : List (List ℕ × Occupancy)) (one : List ℕ × Occupancy) → spelled_all (sections ++ one ∷ []) ≡ spelled_all sections ++ spelled one
spelled_more [] one = append-nil (spelled one)
spelled_more (first ∷ others) one = ap (λ (bytes : List ℕ). spelled first ++ bytes) (spelled_more others one) ∙ sym (append_assoc (spelled first) (spelled_all others) (spelled one))

-- the next section that was read is put at its place
pub one_more : (bytes : List ℕ) (sections : List (List ℕ × Occupancy)) (count : ℕ) (rest more : List ℕ) (one : List ℕ × Occupancy) → count < length sections
    → bytes ≡ spelled_all (take count sections) ++ rest → rest ≡ spelled one ++ more → bytes ≡ spelled_all (take (count + 1) (slice_set sections count one)) ++ more
one_more bytes sections count rest more one within before read =
    before ∙ ap (λ (r : List ℕ). spelled_all (take count sections) ++ r) read
    ∙ sym (append_assoc (spelled_all (take count sections)) (spelled one) more)
    ∙ ap (λ (all : List ℕ). all ++ more) (sym (spelled_more (take count sections) one))
    ∙ ap (λ (all : List (List ℕ × Occupancy)). spelled_all all ++ more) (sym (take_more_set sections count one within))

pub as_many : {A : Type 0} (all : List A) (place : ℕ) (one : A) → length all ≡ 16 → length (slice_set all place one) ≡ 16
as_many all place one is = length-set all place one ∙ is

pub what_follows : (rest name bytes more : List ℕ) → bytes ≡ name → more ≡ drop (2 + length bytes) rest → drop (2 + length name) rest ≡ more
what_follows rest name bytes more same is = ap (λ (n : List ℕ). drop (2 + length n) rest) (sym same) ∙ sym is
