-- Texts grow line by line, and are written.
use Rattle.std.proofs.Common.{◌≡◌, ℕ, suc, ◌+◌, ◌-◌, ◌<◌, ◌≤◌, List, [], ◌∷◌, ◌++◌, fold, get_or, length, map, replicate, take, append_assoc, append-nil, codes, Option, refl, sym, ap, subst, ◌∙◌, arith}
use Rattle.std.proofs.lemmas.List.{flat_map_more, get_or-map, length-map, map-append, take_all, take_more}
use Rattle.std.proofs.lemmas.List.Sums.{fold_more}
use Rattle.std.proofs.KnownBytes.{Appends-kept}
use Rattle.std.specs.Io.KnownBytes.{Appends, Keeps}
use Rattle.std.specs.List.{flat_map}
use Rattle.control_table.specs.layout.Entries.{RouteEntry, Site}
use Rattle.control_table.specs.Topology.{IsRoute}
use Rattle.station_layout.specs.declared.form.Form.{Form}
use Rattle.station_layout.specs.Row.{IsRowOf, Row, route_at}
use Rattle.station_layout.specs.Table.{Tabled}
use Rattle.station_layout.specs.Lines.{AreRows, Cells, IsTable, barred, cells, heads, joined, padded}
use Rattle.station_layout.proofs.Rows.{rows_more, rows_none}

-- one more piece, of the next item
appended_more : {X : Type 0} (f : X → List ℕ) (start so_far new : List ℕ) (xs : List X) (i : ℕ) (d : X)
    → i < length xs → so_far ≡ start ++ flat_map f (take i xs) → new ≡ so_far ++ f (get_or xs i d) → new ≡ start ++ flat_map f (take (i + 1) xs)
appended_more f start so_far new xs i d lt before is =
    is ∙ (ap (λ s. s ++ f (get_or xs i d)) before ∙ (flat_map_more f start (take i xs) (get_or xs i d) ∙ ap (λ ys. start ++ flat_map f ys) (sym (take_more xs i d lt))))

-- one more text of a place
joined_more : (text : ℕ → List ℕ) (n : ℕ) → joined (n + 1) text ≡ joined n text ++ text n
unfolding joined
joined_more text n =
    let next : n + 1 ≡ suc n = omega arith in
    ap (λ m. joined m text) next

joined_none : (text : ℕ → List ℕ) → joined 0 text ≡ []
unfolding joined
joined_none text = refl

-- texts of the first places, after what stood before
pub joined_added : (text : ℕ → List ℕ) (start so_far new : List ℕ) (n : ℕ) → so_far ≡ start ++ joined n text → new ≡ so_far ++ text n → new ≡ start ++ joined (n + 1) text
joined_added text start so_far new n before is =
    is ∙ ap (λ s. s ++ text n) before ∙ append_assoc start (joined n text) (text n) ∙ ap (λ s. start ++ s) (sym (joined_more text n))

-- before the first of them
pub joined_begin : (text : ℕ → List ℕ) (start : List ℕ) → start ≡ start ++ joined 0 text
joined_begin text start = sym (ap (λ s. start ++ s) (joined_none text) ∙ append-nil start)

-- a text between bars, in three steps
pub barred_added : (old a b new cell : List ℕ) → a ≡ old ++ codes "| " → b ≡ a ++ cell → new ≡ b ++ codes " " → new ≡ old ++ barred cell
barred_added old a b new cell first second third =
    third ∙ (ap (λ s. s ++ codes " ") (second ∙ (ap (λ s. s ++ cell) first ∙ append_assoc old (codes "| ") cell)) ∙ append_assoc old (codes "| " ++ cell) (codes " "))

-- a cell with spaces after it, in four steps
pub padded_added : (old a b c new cell : List ℕ) (width count : ℕ) → count ≡ width - length cell → a ≡ old ++ codes "| " → b ≡ a ++ cell → c ≡ b ++ replicate count 32 → new ≡ c ++ codes " "
    → new ≡ old ++ barred (padded width cell)
padded_added old a b c new cell width count is first second third fourth =
    let spaced : c ≡ a ++ (cell ++ replicate count 32) = third ∙ ap (λ s. s ++ replicate count 32) second ∙ append_assoc a cell (replicate count 32) in
    barred_added old a c new (padded width cell) first (spaced ∙ ap (λ n. a ++ (cell ++ replicate n 32)) is) fourth

-- the cells of the heads and of the first k routes
pub record IsBegun (l : Site) (k : ℕ) (table : Cells) : Type 0 where
  pub rows : List Row
  pub are : AreRows l k rows
  pub is : table ≡ map cells (heads ∷ rows)

module _ {Y : Type 0} (view : Y → List (List ℕ)) (l : Site) where
  pub heads_begin : (old new : List Y) (line : Y) → old ≡ [] → new ≡ old ++ line ∷ [] → view line ≡ cells heads → IsBegun l 0 (map view new)
  heads_begin old new line none push is = record {
    rows = [];
    are = rows_none l;
    is = ap (λ ys. map view ys) (push ∙ ap (λ ys. ys ++ line ∷ []) none) ∙ ap (λ cells. cells ∷ []) is;
  }

  -- one line more
  pub line_added : (k : ℕ) (r : RouteEntry) (row : Row) (old new : List Y) (line : Y)
      → IsBegun l k (map view old) → IsRoute l (route_at k) r → IsRowOf l (route_at k) r row → new ≡ old ++ line ∷ [] → view line ≡ cells row → IsBegun l (k + 1) (map view new)
  line_added k r row old new line begun at is push same = record {
    rows = begun.rows ++ row ∷ [];
    are = rows_more l k r row begun.rows _ begun.are at is refl;
    is = ap (λ ys. map view ys) push ∙ map-append view old (line ∷ []) ∙ (λ i. begun.is i ++ same i ∷ []) ∙ sym (map-append cells (heads ∷ begun.rows) (row ∷ []));
  }

-- all lines
pub all_lines : (l lent : Site) (routes : List RouteEntry) (k : ℕ) (table : Cells) → lent ≡ l → routes ≡ lent.routes → length routes ≤ k → k ≤ length routes
    → IsBegun l k table → (rows : List Row) × AreRows l (length l.routes) rows × (table ≡ map cells (heads ∷ rows))
all_lines l lent routes k table same are past within begun =
    let all : k ≡ length routes = omega (arith, past, within) in
    let count : k ≡ length l.routes = all ∙ ap (λ (rs : List RouteEntry). length rs) (are ∙ ap (λ (s : Site). s.routes) same) in
    (begun.rows, subst (λ n. AreRows l n begun.rows) count begun.are, begun.is)

-- ---- loops over lines, which are seen as their cells

module _ {Y : Type 0} (view : Y → List (List ℕ)) where
  -- one line more for a fold
  pub folded_more : (f : ℕ → List (List ℕ) → ℕ) (lines : List Y) (i : ℕ) (line : Y) (old new : ℕ) → i < length lines → line ≡ get_or lines i line
      → old ≡ fold f 0 (take i (map view lines)) → new ≡ f old (view line) → new ≡ fold f 0 (take (i + 1) (map view lines))
  folded_more f lines i line old new within at before is =
      let inside : i < length (map view lines) = subst (λ n. i < n) (sym (length-map lines view)) within in
      let item : get_or (map view lines) i (view line) ≡ view line = get_or-map view lines i line (view line) within ∙ ap view (sym at) in
      is ∙ (λ j. f (before j) (sym item j)) ∙ sym (fold_more f 0 (map view lines) i (view line) inside)

  -- one line more for a text
  pub told_more : (f : List (List ℕ) → List ℕ) (start : List ℕ) (lines : List Y) (i : ℕ) (line : Y) (old new : List ℕ) → i < length lines → line ≡ get_or lines i line
      → old ≡ start ++ flat_map f (take i (map view lines)) → new ≡ old ++ f (view line) → new ≡ start ++ flat_map f (take (i + 1) (map view lines))
  told_more f start lines i line old new within at before is =
      let inside : i < length (map view lines) = subst (λ n. i < n) (sym (length-map lines view)) within in
      let item : get_or (map view lines) i (view line) ≡ view line = get_or-map view lines i line (view line) within ∙ ap view (sym at) in
      appended_more f start old new (map view lines) i (view line) inside before (is ∙ ap (λ cells. old ++ f cells) (sym item))

pub tabled : (form : Form) (l : Site) (text : List ℕ) (c d e : Option (List ℕ)) → IsTable form l text → Appends c d text → Keeps d e → Tabled form l c e
tabled form l text c d e is told kept = (text, is, Appends-kept c d e text told kept)
