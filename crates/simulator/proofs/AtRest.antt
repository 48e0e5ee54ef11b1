-- A station that lies at rest: every point stands left, and every section is clear.
use Rattle.std.proofs.Common.{◌≡◌, ℕ, List, [], ◌∷◌, length, map, replicate, refl, sym, ap, ◌∙◌}
use Rattle.ixl_state.specs.layout.Entries.{Site}
use Rattle.ixl_state.specs.sci_telegram.declared.message.Occupancy.{Occupancy}
use Rattle.ixl_state.specs.sci_telegram.declared.message.Occupancy.TheVariants as occupancies
use Rattle.ixl_state.specs.sci_telegram.declared.message.Position.{Position}
use Rattle.ixl_state.specs.sci_telegram.declared.message.Position.TheVariants as positions
use Rattle.simulator_spec.specs.First.{Outset, at_rest}

as_many : {A B : Type 0} (one : B) (xs : List A) → replicate (length xs) one ≡ map (λ x. one) xs
as_many one [] = refl
as_many one (x ∷ xs) = ap (λ others. one ∷ others) (as_many one xs)

all_alike : {A B : Type 0} (one : B) (xs : List A) (n : ℕ) → n ≡ length xs → replicate n one ≡ map (λ x. one) xs
all_alike one xs n is_length = ap (λ m. replicate m one) is_length ∙ as_many one xs

pub lies_at_rest : (site : Site) (stands : List Position) (occupied : List Occupancy) (points sections : ℕ) → stands ≡ replicate points positions.Left → occupied ≡ replicate sections occupancies.Clear
    → points ≡ length site.points → sections ≡ length site.sections → (record { positions = stands; occupancies = occupied }) ≡ at_rest site
lies_at_rest site stands occupied points sections stands_are occupied_are points_are sections_are =
    let lies : List Position → List Occupancy → Outset = λ p o. record { positions = p; occupancies = o }
    in ap (λ p. lies p occupied) (stands_are ∙ all_alike positions.Left site.points points points_are)
    ∙ ap (lies (map (λ point. positions.Left) site.points)) (occupied_are ∙ all_alike occupancies.Clear site.sections sections sections_are)
