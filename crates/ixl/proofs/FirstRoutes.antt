-- The first route of the table that passes a test.
use Rattle.std.proofs.Common.{◌≡◌, ◌∙◌, ℕ, suc, ◌+◌, ◌≤◌, Bool, true, false, if◌then◌else◌, List, ◌∷◌, length, drop, add-one, ap, sym}
use Rattle.std.specs.Prelude.{Some, None, slice_get}
use Rattle.std.proofs.lemmas.List.{drop_all}
use Rattle.ixl_state.specs.ixl_spec.State.{RouteState}
use Rattle.ixl_state.specs.ixl_spec.Table.{Row}
use Rattle.ixl_state.specs.ixl_spec.Operations.{first_route}
use Rattle.ixl.proofs.Giver.{drop_at}

module _ (test : ℕ → Row → RouteState → Bool) (number : ℕ) (rows : List Row) (routes : List RouteState) where
  pub first_past : length rows ≤ number → first_route test number (drop number rows) (drop number routes) ≡ None
  first_past over = ap (λ list. first_route test number list (drop number routes)) (drop_all number rows over)

  module _ (row : Row) (route : RouteState) (here : Bool) (is_row : slice_get rows number ≡ Some row) (is_route : slice_get routes number ≡ Some route) (is : here ≡ test number row route) where
    first_next : first_route test number (drop number rows) (drop number routes) ≡ (if here then Some number else first_route test (suc number) (drop (suc number) rows) (drop (suc number) routes))
    first_next =
        ap (λ list. first_route test number list (drop number routes)) (drop_at rows number row is_row)
        ∙ ap (first_route test number (row ∷ drop (suc number) rows)) (drop_at routes number route is_route)
        ∙ ap (λ b. if b then Some number else first_route test (suc number) (drop (suc number) rows) (drop (suc number) routes)) (sym is)

    -- from the next one on
    pub first_later : here ≡ false → first_route test (number + 1) (drop (number + 1) rows) (drop (number + 1) routes) ≡ first_route test number (drop number rows) (drop number routes)
    first_later fails =
        ap (λ n. first_route test n (drop n rows) (drop n routes)) (add-one number)
        ∙ ap (λ b. if b then Some number else first_route test (suc number) (drop (suc number) rows) (drop (suc number) routes)) (sym fails)
        ∙ sym first_next

    pub first_here : here ≡ true → Some number ≡ first_route test number (drop number rows) (drop number routes)
    first_here passed = ap (λ b. if b then Some number else first_route test (suc number) (drop (suc number) rows) (drop (suc number) routes)) (sym passed) ∙ sym first_next
