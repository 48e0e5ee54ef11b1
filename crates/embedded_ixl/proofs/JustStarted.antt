-- No route of an interlocking that was just made has authority.
use Rattle.std.proofs.Common.{◌≡◌, ◌∙◌, ℕ, suc, Bool, true, false, List, [], ◌∷◌, map, Some, None, ap, refl, ◌==◌}
use Rattle.std.specs.Prelude.{◌&&◌, if◌then◌else◌}
use Rattle.ixl_state.specs.First.{new_route_of}
use Rattle.ixl_state.specs.ixl_spec.Table.{Row, SitedTable}
use Rattle.ixl_state.specs.ixl_spec.View.{authority_from}
use Rattle.embedded_ixl.specs.Embedded.{new_state}
use Rattle.embedded_ixl.proofs.Below.{new_ixl}

and_false : (b : Bool) → (b && false) ≡ false
and_false true = refl
and_false false = refl

none_of : (signal number : ℕ) (rows : List Row) → authority_from signal number rows (map new_route_of rows) ≡ None
none_of signal number [] = refl
none_of signal number (row ∷ rows) =
    ap (λ (b : Bool). if b then Some number else authority_from signal (suc number) rows (map new_route_of rows)) (and_false (row.entry == signal)) ∙ none_of signal (suc number) rows

pub gives_nothing : (sited : SitedTable) (first now signal : ℕ) → authority_from signal 0 sited.table.rows (new_state sited first now).ixl.routes ≡ None
unfolding new_ixl
gives_nothing sited first now signal = none_of signal 0 sited.table.rows
