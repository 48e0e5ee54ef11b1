-- What the controllers tell, as facts of all that is kept.
use Rattle.std.proofs.Common.{◌≡◌, ◌∙◌, ℕ, zero, suc, Bool, true, false, not, List, [], ◌∷◌, get_or, refl, ap, sym, subst}
use Rattle.std.specs.Prelude.{◌&&◌, ◌||◌, Some, slice_get}
use Rattle.ixl_state.specs.ixl_spec.State.{IxlState}
use Rattle.ixl_state.specs.ixl_spec.Table.{Row, Table}
use Rattle.ixl_state.specs.ixl_table.Table.{SitedTable}
use Rattle.ixl_state.specs.ixl_known.Field.{FieldState, Rest, kept}
use Rattle.ixl_state.specs.State.{StateView, field_of, rest_of}

pub in_state : (holds : Table → IxlState → Type 0) (state : StateView) (field : FieldState) → field ≡ field_of state →
    ((table : Table) (rest : Rest) → table.reporters ≡ field.reporters → holds table (kept field rest)) → holds state.sited.table state.ixl
in_state holds state field is says =
    (subst (λ (f : FieldState). (table : Table) (rest : Rest) → table.reporters ≡ f.reporters → holds table (kept f rest)) is says) state.sited.table (rest_of state) refl

pub of_nodes : (holds : IxlState → Type 0) (state : StateView) (field : FieldState) → field ≡ field_of state → ((rest : Rest) → holds (kept field rest)) → holds state.ixl
of_nodes holds state field is says = (subst (λ (f : FieldState). (rest : Rest) → holds (kept f rest)) is says) (rest_of state)

-- neither of two tests passes
pub neither_first : (a one other : Bool) → a ≡ one → a ≡ true → not a ≡ (not one && not other)
neither_first a one other is holds = ap not holds ∙ ap (λ b. not b && not other) (sym holds ∙ is)

pub neither_then : (a b one other : Bool) → a ≡ one → b ≡ other → a ≡ false → not b ≡ (not one && not other)
neither_then a b one other is also fails = ap not also ∙ ap (λ x. not x && not other) (sym fails ∙ is)

pub both_first : (a one other : Bool) → a ≡ one → a ≡ false → a ≡ (one && other)
both_first a one other is fails = fails ∙ ap (λ b. b && other) (sym fails ∙ is)

pub both_then : (a b one other : Bool) → a ≡ one → b ≡ other → a ≡ true → b ≡ (one && other)
both_then a b one other is also holds = also ∙ ap (λ x. x && other) (sym holds ∙ is)

-- either of two tests passes
pub either_first : (a one other : Bool) → a ≡ one → a ≡ true → a ≡ (one || other)
either_first a one other is holds = holds ∙ ap (λ b. b || other) (sym holds ∙ is)

pub either_then : (a b one other : Bool) → a ≡ one → b ≡ other → a ≡ false → b ≡ (one || other)
either_then a b one other is also fails = also ∙ ap (λ x. x || other) (sym fails ∙ is)

-- one test passes, and not the other
pub unless_first : (a one other : Bool) → a ≡ one → a ≡ true → not a ≡ (not one && other)
unless_first a one other is holds = ap not holds ∙ ap (λ b. not b && other) (sym holds ∙ is)

pub unless_then : (a b one other : Bool) → a ≡ one → b ≡ other → a ≡ false → b ≡ (not one && other)
unless_then a b one other is also fails = also ∙ ap (λ x. not x && other) (sym fails ∙ is)

-- what was read at a place stands there
pub get_read : {A : Type 0} (list : List A) (place : ℕ) (one found : A) → slice_get list place ≡ Some found → one ≡ get_or list place one → one ≡ found
get_read [] place one found is read = cc
get_read (first ∷ others) zero one found is read = cc
get_read (first ∷ others) (suc place) one found is read = get_read others place one found is read

-- the row of a route
pub row_read : (sited seen : SitedTable) (rows : List Row) (number : ℕ) (one row : Row) → rows ≡ seen.table.rows → seen ≡ sited → one ≡ get_or rows number one → slice_get sited.table.rows number ≡ Some row → one ≡ row
row_read sited seen rows number one row is same read there =
    get_read sited.table.rows number one row there (subst (λ (list : List Row). one ≡ get_or list number one) (is ∙ ap (λ (p : SitedTable). p.table.rows) same) read)
