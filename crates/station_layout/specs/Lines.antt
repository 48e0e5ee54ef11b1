-- The lines of the control table, in either form.
use Rattle.std.specs.Prelude.{◌≡◌, ◌-◌, ◌==◌, ℕ, zero, suc, List, [], ◌∷◌, ◌++◌, codes, fold, if◌then◌else◌, length, map, max, replicate, slice_get}
use Rattle.std.specs.List.{flat_map}
use Rattle.std.specs.Option.{unwrap_or}
use Rattle.csv.specs.Writing.{default_writer, row_text}
use Rattle.control_table.specs.layout.Entries.{RouteEntry, Site}
use Rattle.control_table.specs.Topology.{IsRoute}
use Rattle.station_layout.specs.declared.form.Form.{Form}
use Rattle.station_layout.specs.declared.form.Form.TheVariants.{Markdown, Csv}
use Rattle.station_layout.specs.Row.{IsRowOf, Row, route_at}

-- ---- cells

-- the cells of a row, in the order in which they stand
abbrev pub cells : Row → List (List ℕ)
cells row =
    row.route ∷ row.entry ∷ row.exit ∷ row.aspect ∷ row.right ∷ row.left ∷ row.flank ∷ row.sections ∷ row.let_go ∷ row.approach ∷ row.conflicts ∷ []

-- what stands above them
abbrev pub heads : Row
heads = record {
  route = codes "Route";
  entry = codes "Entry";
  exit = codes "Exit";
  aspect = codes "Aspect";
  right = codes "Points right";
  left = codes "Points left";
  flank = codes "Flank points";
  sections = codes "Sections";
  let_go = codes "Points let go";
  approach = codes "Approach";
  conflicts = codes "Conflicts";
}

-- the cells of a table, line by line
abbrev pub Cells : Type 0
Cells = List (List (List ℕ))

-- the cell of a line at a place
abbrev pub cell_at : ℕ → List (List ℕ) → List ℕ
cell_at place line = unwrap_or (slice_get line place) []

-- ---- Markdown

-- how wide a column is: as wide as its widest cell
abbrev pub widest : Cells → ℕ → ℕ
widest table place = fold (λ width line. max width (length (cell_at place line))) 0 table

-- the width to which the cells of a column are padded; those of the last column, at place 10, aren't
abbrev pub width_of : Cells → ℕ → ℕ
width_of table place = if place == 10 then 0 else widest table place

-- a cell with spaces after it, up to a width
abbrev pub padded : ℕ → List ℕ → List ℕ
padded width cell = cell ++ replicate (width - length cell) 32

-- a cell, with the bar before it
abbrev pub barred : List ℕ → List ℕ
barred cell = codes "| " ++ (cell ++ codes " ")

-- the texts of the first places, one after the other
unfoldable pub joined : ℕ → (ℕ → List ℕ) → List ℕ
joined zero text = []
joined (suc n) text = joined n text ++ text n

-- a line of a table, which has 11 columns
abbrev pub markdown_line : Cells → List (List ℕ) → List ℕ
markdown_line table line = joined 11 (λ place. barred (padded (width_of table place) (cell_at place line))) ++ codes "|\n"

-- the rule below the heads: as many hyphens as a column is wide, and three at least
abbrev pub rule_text : Cells → List ℕ
rule_text table = joined 11 (λ place. barred (replicate (max (width_of table place) 3) 45)) ++ codes "|\n"

-- ---- the table

-- the text of a table, whose first line has the heads
abbrev pub table_text : Form → Cells → List ℕ
table_text Markdown [] = []
table_text Markdown (line ∷ lines) = markdown_line (line ∷ lines) line ++ (rule_text (line ∷ lines) ++ flat_map (markdown_line (line ∷ lines)) lines)
table_text Csv lines = flat_map (row_text default_writer) lines

-- These are the rows of the first k routes, in the order of the table.
unfoldable pub AreRows : Site → ℕ → List Row → Type 0
AreRows l zero rows = rows ≡ []
AreRows l (suc k) rows =
    (front : List Row) × (r : RouteEntry) × (row : Row) × AreRows l k front × IsRoute l (route_at k) r × IsRowOf l (route_at k) r row × (rows ≡ front ++ row ∷ [])

-- A text is the control table of a station: the heads, and a row for each route.
abbrev pub IsTable : Form → Site → List ℕ → Type 0
IsTable form l text = (rows : List Row) × AreRows l (length l.routes) rows × (text ≡ table_text form (map cells (heads ∷ rows)))
