-- The cells of all columns are those of a row.
use Rattle.std.proofs.Common.{◌≡◌, ◌∙◌, ◌<◌, ◌≤◌, ◌+◌, ℕ, List, [], ◌∷◌, ◌++◌, append_assoc, append-nil, ap, drop, get_or, length, map, refl, subst}
use Rattle.std.proofs.Math.ListN.{drop_of_length-le}
use Rattle.std.proofs.lemmas.List.{drop_more, map-append}
use Rattle.control_table.specs.layout.Entries.{RouteEntry, Site}
use Rattle.control_table.specs.layout.declared.ids.RouteId.{RouteId}
use Rattle.station_layout.specs.Lines.{cells}
use Rattle.station_layout.specs.Row.{IsRowOf, Row}
use Rattle.station_layout.specs.declared.row.Column.{Column}
use Rattle.station_layout.specs.declared.row.Column.TheVariants as column
use Rattle.station_layout.specs.inside.Columns.{AreCells, IsCell}

abbrev pub all_columns : List Column
all_columns =
    column.Route ∷ column.Entry ∷ column.Exit ∷ column.Aspect ∷ column.Right ∷ column.Left ∷ column.Flank ∷ column.Sections ∷ column.LetGo ∷ column.Approach ∷ column.Conflicts ∷ []

with_rest : (text : List ℕ) (texts rest more : List (List ℕ)) → texts ≡ text ∷ rest → rest ≡ more → texts ≡ text ∷ more
with_rest text texts rest more is are = is ∙ ap (λ left. text ∷ left) are

pub row_is : (l : Site) (a : RouteId) (r : RouteEntry) (texts : List (List ℕ)) → AreCells l a r all_columns texts → (row : Row) × IsRowOf l a r row × (texts ≡ cells row)
unfolding AreCells
row_is l a r texts route =
    let entry = route.3 in
    let exit = entry.3 in
    let aspect = exit.3 in
    let right = aspect.3 in
    let left = right.3 in
    let flank = left.3 in
    let sections = flank.3 in
    let let_go = sections.3 in
    let approach = let_go.3 in
    let conflicts = approach.3 in
    let none = conflicts.3 in (
      record { route = route.0; entry = entry.0; exit = exit.0; aspect = aspect.0; right = right.0; left = left.0; flank = flank.0; sections = sections.0; let_go = let_go.0; approach = approach.0; conflicts = conflicts.0 },
      record { route = route.2; entry = entry.2; exit = exit.2; aspect = aspect.2; right = right.2; left = left.2; flank = flank.2; sections = sections.2; let_go = let_go.2; approach = approach.2; conflicts = conflicts.2 },
      with_rest _ _ _ _ route.4 (with_rest _ _ _ _ entry.4 (with_rest _ _ _ _ exit.4 (with_rest _ _ _ _ aspect.4 (with_rest _ _ _ _ right.4 (with_rest _ _ _ _ left.4 (with_rest _ _ _ _ flank.4 (with_rest _ _ _ _ sections.4 (with_rest _ _ _ _ let_go.4 (with_rest _ _ _ _ approach.4 (with_rest _ _ _ _ conflicts.4 none)))))))))),
    )

-- ---- one cell after the other

module _ {Y : Type 0} (view : Y → List ℕ) (l : Site) (a : RouteId) (r : RouteEntry) where
  -- with cells of the columns after the first so many, these are those of all columns
  abbrev pub AreFirst : ℕ → List Y → Type 0
  AreFirst count texts = (rest : List (List ℕ)) → AreCells l a r (drop count all_columns) rest → AreCells l a r all_columns (map view texts ++ rest)

  pub cell_added : (count : ℕ) (d : Column) (texts new : List Y) (text : Y) → count < length all_columns → IsCell l a r (get_or all_columns count d) (view text)
      → new ≡ texts ++ text ∷ [] → AreFirst count texts → AreFirst (count + 1) new
  unfolding AreCells
  cell_added count d texts new text within is push so_far rest are =
      let here : AreCells l a r (drop count all_columns) (view text ∷ rest) = rw (drop_more all_columns count d within) (view text, rest, is, are, refl) in
      let grown = ap (λ ys. map view ys ++ rest) push ∙ ap (λ ts. ts ++ rest) (map-append view texts (text ∷ [])) ∙ append_assoc (map view texts) (view text ∷ []) rest in
      rw grown (so_far (view text ∷ rest) here)

  none_left : (count : ℕ) → length all_columns ≤ count → AreCells l a r (drop count all_columns) []
  unfolding AreCells
  none_left count past = rw (drop_of_length-le all_columns past) refl

  pub all_cells : (count : ℕ) (texts : List Y) → length all_columns ≤ count → AreFirst count texts → (row : Row) × IsRowOf l a r row × (map view texts ≡ cells row)
  all_cells count texts past so_far =
      row_is l a r (map view texts) (subst (λ ts. AreCells l a r all_columns ts) (append-nil (map view texts)) (so_far [] (none_left count past)))
