-- What is left of sections that were told, as they are read.
use Rattle.std.proofs.Common.{◌≡◌, ◌≤◌, ◌+◌, ℕ, List, [], ◌∷◌, ◌++◌, length, drop, sym, ap, ◌∙◌, arith, get_or, Option}
use Rattle.std.specs.Prelude.{IsSome}
use Rattle.std.proofs.Math.Seq.{drop-append_seam}
use Rattle.sci_telegram.specs.Names.{IsName}
use Rattle.sci_telegram.specs.declared.message.Occupancy.{Occupancy}
use Rattle.controllers_c.specs.Sections.{AreNamed, spelled, spelled_all}

abbrev pub Section : Type 0
Section = List ℕ × Occupancy

-- where the bytes tell at most 16 sections with names, those that aren't read yet are told by the rest
abbrev pub Leaves : List ℕ → ℕ → List ℕ → Type 0
Leaves bytes count rest = (sections : List Section) → AreNamed sections → length sections ≤ 16 → bytes ≡ spelled_all sections
    → (left : List Section) × AreNamed left × (count + length left ≤ 16) × (rest ≡ spelled_all left)

-- a section that isn't there is told by nothing
pub one_is_read : (rest : List ℕ) (result : Option Section) → (rest ≡ [] → ⊥) → ((section : Section) (more : List ℕ) → IsName section.0 → rest ≡ spelled section ++ more → IsSome result)
    → (left : List Section) → AreNamed left → rest ≡ spelled_all left → IsSome result
one_is_read rest result some only [] named told = absurd (some told)
one_is_read rest result some only (first ∷ others) named told = only first (spelled_all others) named.0 told

after_one : (section : Section) (more : List ℕ) → drop (length (spelled section)) (spelled section ++ more) ≡ more
after_one section more = drop-append_seam (spelled section) more

same_rest : (one other : Section) (more others : List ℕ) → spelled one ++ more ≡ spelled other ++ others → more ≡ others
same_rest one other more others same =
    let long : length one.0 ≡ length other.0 = ap (λ (bytes : List ℕ). get_or bytes 1 0) same in
    let length_is : length (spelled one) ≡ length (spelled other) = omega arith in
    sym (after_one one more) ∙ ap (λ (bytes : List ℕ). drop (length (spelled one)) bytes) same
    ∙ ap (λ (n : ℕ). drop n (spelled other ++ others)) length_is ∙ after_one other others

by_left : (count : ℕ) (rest more : List ℕ) (section : Section) → (rest ≡ [] → ⊥) → rest ≡ spelled section ++ more
    → (left : List Section) → AreNamed left → count + length left ≤ 16 → rest ≡ spelled_all left
    → (next : List Section) × AreNamed next × (count + 1 + length next ≤ 16) × (more ≡ spelled_all next)
by_left count rest more section some read [] named few told = absurd (some told)
by_left count rest more section some read (first ∷ others) named few told =
    (others, named.1, omega arith, same_rest section first more (spelled_all others) (sym read ∙ told))

-- the first of them was read
pub fewer_left : (bytes : List ℕ) (count : ℕ) (rest more : List ℕ) (section : Section) → (rest ≡ [] → ⊥) → rest ≡ spelled section ++ more → Leaves bytes count rest → Leaves bytes (count + 1) more
fewer_left bytes count rest more section some read leaves sections named few told =
    let left = leaves sections named few told in by_left count rest more section some read left.0 left.1 left.2 left.3
