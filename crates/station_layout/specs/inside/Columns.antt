-- What the cell of a column says.
use Rattle.std.specs.Prelude.{◌≡◌, ℕ, List, [], ◌∷◌}
use Rattle.control_table.specs.layout.Entries.{RouteEntry, Site}
use Rattle.control_table.specs.layout.declared.ids.RouteId.{RouteId}
use Rattle.control_table.specs.sci_telegram.declared.message.Side.TheVariants as side
use Rattle.control_table.specs.sci_telegram.Words.{aspect_word}
use Rattle.station_layout.specs.Names.{exit_name, parted, signal_name, spaced}
use Rattle.station_layout.specs.Row.{IsConflictsCell, IsLetGoCell, IsSectionsCell, flank_texts, names_of_points, points_at, section_names}
use Rattle.station_layout.specs.declared.row.Column.{Column}
use Rattle.station_layout.specs.declared.row.Column.TheVariants as column

abbrev pub IsCell : Site → RouteId → RouteEntry → Column → List ℕ → Type 0
IsCell l a r column.Route text = text ≡ r.name
IsCell l a r column.Entry text = text ≡ signal_name l r.entry
IsCell l a r column.Exit text = text ≡ exit_name l r.exit
IsCell l a r column.Aspect text = text ≡ aspect_word r.aspect
IsCell l a r column.Right text = text ≡ spaced (names_of_points l (points_at r side.Right))
IsCell l a r column.Left text = text ≡ spaced (names_of_points l (points_at r side.Left))
IsCell l a r column.Flank text = text ≡ parted (flank_texts l r.flank)
IsCell l a r column.Sections text = IsSectionsCell l a text
IsCell l a r column.LetGo text = IsLetGoCell l a text
IsCell l a r column.Approach text = text ≡ spaced (section_names l r.approach)
IsCell l a r column.Conflicts text = IsConflictsCell l a text

-- the cells of these columns, in their order
unfoldable pub AreCells : Site → RouteId → RouteEntry → List Column → List (List ℕ) → Type 0
AreCells l a r [] texts = texts ≡ []
AreCells l a r (column ∷ columns) texts = (text : List ℕ) × (rest : List (List ℕ)) × IsCell l a r column text × AreCells l a r columns rest × (texts ≡ text ∷ rest)
