-- What routes see of their approaches.
use Rattle.std.proofs.Common.{◌≡◌, ℕ, zero, suc, Bool, true, false, not, if◌then◌else◌, List, [], ◌∷◌, refl, ap, sym, ◌∙◌}
use Rattle.std.specs.Prelude.{◌||◌}
use Rattle.ixl_state.specs.ixl_spec.StepSoFar.{with_route}
use Rattle.ixl_state.specs.ixl_spec.Rules.{is_proceeding, is_withdrawn}
use Rattle.ixl_state.specs.ixl_spec.State.{RouteState, changed}
use Rattle.ixl_state.specs.ixl_spec.Step.{watching}
use Rattle.ixl_state.specs.ixl_spec.Table.{Row, Table}
use Rattle.ixl_state.specs.ixl_spec.View.{has_authority, is_approach_clear}
use Rattle.ixl_state.specs.ixl_spec.declared.phase.Phase.{Phase}
use Rattle.ixl_state.specs.ixl_spec.declared.phase.Phase.TheVariants as phase
use Rattle.ixl_state.specs.ixl_table.Locks.{IsKeptRoute}
use Rattle.ixl_state.specs.State.{AllAt, StateView, route_changed}
use Rattle.ixl.specs.inside.Parts.{Passes}
use Rattle.ixl.proofs.StepParts.{route_passes, route_stays}

pub authority_is : (p : Phase) → (is_proceeding p || is_withdrawn p) ≡ has_authority p
authority_is phase.Free = refl
authority_is phase.Waiting = refl
authority_is phase.Proceeding = refl
authority_is phase.Withdrawn = refl
authority_is (phase.Ended clock freed) = refl

abbrev pub sees_approach : Bool → RouteState → RouteState
sees_approach is_clear old = record old { approached = old.approached || not is_clear }

pub route_watched : (now number : ℕ) (is_clear : Bool) (old new : StateView) (row : Row) (route : RouteState) → AllAt now old →
    IsKeptRoute old.sited.table old.ixl.routes number row route → has_authority route.phase ≡ true → is_clear ≡ is_approach_clear old.sited.table old.ixl row →
    new ≡ route_changed (sees_approach is_clear) number old → Passes now (watching old.sited.table number) old new
unfolding watching
route_watched now number is_clear old new row route at kept has clear made =
    route_passes now number (λ row route part. if is_proceeding route.phase || is_withdrawn route.phase
    then with_route number (sees_approach (is_approach_clear old_table part.ixl row)) part else part)
    (sees_approach is_clear) old new row route at kept
    (λ part same. ap (λ b. if b then with_route number (sees_approach (is_approach_clear old_table part.ixl row)) part else part) (authority_is route.phase ∙ has)
    ∙ ap (λ b. with_route number (sees_approach b) part) (ap (λ i. is_approach_clear old_table i row) same ∙ sym clear)) made
  where
    old_table : Table
    old_table = old.sited.table

-- watching a clear approach changes nothing

same_approach : (route : RouteState) → sees_approach true route ≡ route
same_approach route = cases route.approached where
  cases : (b : Bool) → record route { approached = b || false } ≡ record route { approached = b }
  cases true = refl
  cases false = refl

unchanged : {A : Type 0} (change : A → A) → ((one : A) → change one ≡ one) → (place : ℕ) (list : List A) → changed change place list ≡ list
unchanged change same place [] = refl
unchanged change same zero (one ∷ others) = ap (λ first. first ∷ others) (same one)
unchanged change same (suc place) (one ∷ others) = ap (λ rest. one ∷ rest) (unchanged change same place others)

pub route_watched_clear : (now number : ℕ) (old : StateView) (row : Row) (route : RouteState) → AllAt now old →
    IsKeptRoute old.sited.table old.ixl.routes number row route → has_authority route.phase ≡ true → true ≡ is_approach_clear old.sited.table old.ixl row →
    Passes now (watching old.sited.table number) old old
route_watched_clear now number old row route at kept has clear =
    route_watched now number true old old row route at kept has clear
    (ap (λ routes. record old { ixl = record old.ixl { routes = routes } }) (sym (unchanged (sees_approach true) same_approach number old.ixl.routes)))

pub route_not_watched : (now number : ℕ) (old : StateView) (row : Row) (route : RouteState) → AllAt now old →
    IsKeptRoute old.sited.table old.ixl.routes number row route → has_authority route.phase ≡ false → Passes now (watching old.sited.table number) old old
unfolding watching
route_not_watched now number old row route at kept has =
    route_stays now number (λ row route part. if is_proceeding route.phase || is_withdrawn route.phase
    then with_route number (sees_approach (is_approach_clear old_table part.ixl row)) part else part)
    old row route at kept (λ part. ap (λ b. if b then with_route number (sees_approach (is_approach_clear old_table part.ixl row)) part else part) (authority_is route.phase ∙ has))
  where
    old_table : Table
    old_table = old.sited.table
