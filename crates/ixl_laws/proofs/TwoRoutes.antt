-- The turns of two routes.
use Rattle.std.proofs.Common.{◌≡◌, ℕ, [], ◌∷◌, refl}
use Rattle.ixl_state.specs.ixl_spec.Table.{Need, Row}
use Rattle.ixl_laws.specs.WholeStep.{EndAuthority, FreeCancelled, FreeSection, MovePoint, Passed, Proceed, Watch, Withdraw, turns_of_rules}

pub two_routes : (first second : Row) (a b c : ℕ) (need : Need) → first.sections ≡ a ∷ b ∷ [] → first.needs ≡ need ∷ [] → second.sections ≡ c ∷ [] → second.needs ≡ [] →
    turns_of_rules (first ∷ second ∷ []) ≡ Watch 0 ∷ Watch 1 ∷ Withdraw 0 ∷ Withdraw 1 ∷ EndAuthority 0 ∷ EndAuthority 1
    ∷ FreeSection 0 ∷ FreeSection 0 ∷ Passed 0 ∷ FreeSection 1 ∷ Passed 1 ∷ FreeCancelled 0 ∷ FreeCancelled 1 ∷ MovePoint 0 need ∷ Proceed 0 ∷ Proceed 1 ∷ []
two_routes first second a b c need sections needs other_sections other_needs = rw (sections, needs, other_sections, other_needs) refl
