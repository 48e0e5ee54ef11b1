-- The sections of a detector, one place after the other.
use Rattle.std.proofs.Common.{◌≡◌, ℕ, zero, suc, ◌<◌, ◌≤◌, true, List, [], ◌∷◌, ◌++◌, length, get_or, take, drop, slice_set, refl, ap, sym, ◌∙◌, arith}
use Rattle.tds_ctl.specs.declared.section.Section.{Section}
use Rattle.tds_ctl.specs.Sections.{with_section, settled, paying}

pub section_within : (place : ℕ) (change : Section → Section) (sections : List Section) (section : Section) → place < length sections
    → section ≡ get_or sections place section
    → with_section place change sections ≡ slice_set sections place (change section)
section_within place change [] section within is = absurd (omega arith)
section_within zero change (first ∷ rest) section within is = cc
section_within (suc place) change (first ∷ rest) section within is =
    ap (λ (r : List Section). first ∷ r) (section_within place change rest section (omega arith) is)

pub section_beyond : (place : ℕ) (change : Section → Section) (sections : List Section) → length sections ≤ place
    → with_section place change sections ≡ sections
section_beyond place change [] beyond = refl
section_beyond zero change (first ∷ rest) beyond = absurd (omega arith)
section_beyond (suc place) change (first ∷ rest) beyond =
    ap (λ (r : List Section). first ∷ r) (section_beyond place change rest (omega arith))

-- where those before a place owe nothing, and the one there owes
pub first_settled : (sections : List Section) (place : ℕ) (section : Section) → place < length sections
    → section ≡ get_or sections place section → section.owes ≡ true
    → take place sections ++ paying (drop place sections) ≡ slice_set sections place (settled section)
first_settled [] place section within is owes = absurd (omega arith)
first_settled (first ∷ rest) zero section within is owes =
    let here : first.owes ≡ true = ap (λ (s : Section). s.owes) (sym is) ∙ owes in
    rw here (ap (λ (s : Section). settled s ∷ rest) (sym is))
first_settled (first ∷ rest) (suc place) section within is owes =
    ap (λ (r : List Section). first ∷ r) (first_settled rest place section (omega arith) is owes)
