-- Which route has authority from a signal.
use Rattle.std.proofs.Common.{◌≡◌, ◌∙◌, ℕ, zero, suc, ◌+◌, ◌≤◌, Bool, true, false, if◌then◌else◌, List, [], ◌∷◌, length, drop, add-one, ap, sym}
use Rattle.std.specs.Prelude.{◌==◌, ◌&&◌, Some, None, slice_get}
use Rattle.std.proofs.lemmas.List.{drop_all}
use Rattle.ixl_state.specs.ixl_spec.State.{RouteState}
use Rattle.ixl_state.specs.ixl_spec.Table.{Row}
use Rattle.ixl_state.specs.ixl_spec.View.{authority_from, has_authority}

pub drop_at : {A : Type 0} (list : List A) (place : ℕ) (one : A) → slice_get list place ≡ Some one → drop place list ≡ one ∷ drop (suc place) list
drop_at [] place one is = cc
drop_at (first ∷ others) zero one is = let same : first ≡ one = cc in ap (λ o. o ∷ others) same
drop_at (first ∷ others) (suc place) one is = drop_at others place one is

pub authority_next : (signal number : ℕ) (rows : List Row) (routes : List RouteState) (row : Row) (route : RouteState) (here : Bool) → slice_get rows number ≡ Some row → slice_get routes number ≡ Some route →
    here ≡ (row.entry == signal && has_authority route.phase) →
    authority_from signal number (drop number rows) (drop number routes) ≡ (if here then Some number else authority_from signal (suc number) (drop (suc number) rows) (drop (suc number) routes))
authority_next signal number rows routes row route here is_row is_route is =
    ap (λ list. authority_from signal number list (drop number routes)) (drop_at rows number row is_row)
    ∙ ap (authority_from signal number (row ∷ drop (suc number) rows)) (drop_at routes number route is_route)
    ∙ ap (λ b. if b then Some number else authority_from signal (suc number) (drop (suc number) rows) (drop (suc number) routes)) (sym is)

pub authority_past : (signal number : ℕ) (rows : List Row) (routes : List RouteState) → length rows ≤ number → authority_from signal number (drop number rows) (drop number routes) ≡ None
authority_past signal number rows routes over = ap (λ list. authority_from signal number list (drop number routes)) (drop_all number rows over)

-- from the next one on
pub authority_later : (signal number : ℕ) (rows : List Row) (routes : List RouteState) (row : Row) (route : RouteState) (here : Bool) → slice_get rows number ≡ Some row → slice_get routes number ≡ Some route →
    here ≡ (row.entry == signal && has_authority route.phase) → here ≡ false →
    authority_from signal (number + 1) (drop (number + 1) rows) (drop (number + 1) routes) ≡ authority_from signal number (drop number rows) (drop number routes)
authority_later signal number rows routes row route here is_row is_route is fails =
    ap (λ n. authority_from signal n (drop n rows) (drop n routes)) (add-one number)
    ∙ ap (λ b. if b then Some number else authority_from signal (suc number) (drop (suc number) rows) (drop (suc number) routes)) (sym fails)
    ∙ sym (authority_next signal number rows routes row route here is_row is_route is)

pub authority_here : (signal number : ℕ) (rows : List Row) (routes : List RouteState) (row : Row) (route : RouteState) (here : Bool) → slice_get rows number ≡ Some row → slice_get routes number ≡ Some route →
    here ≡ (row.entry == signal && has_authority route.phase) → here ≡ true → Some number ≡ authority_from signal number (drop number rows) (drop number routes)
authority_here signal number rows routes row route here is_row is_route is holds =
    ap (λ b. if b then Some number else authority_from signal (suc number) (drop (suc number) rows) (drop (suc number) routes)) (sym holds)
    ∙ sym (authority_next signal number rows routes row route here is_row is_route is)
