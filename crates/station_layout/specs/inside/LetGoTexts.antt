-- What is told of one more section.
use Rattle.std.specs.Prelude.{◌≡◌, ◌++◌, ℕ, Bool, true, false, List, codes}
use Rattle.control_table.specs.layout.declared.ids.RouteId.{RouteId}
use Rattle.control_table.specs.layout.declared.ids.SectionId.{SectionId}
use Rattle.control_table.specs.layout.Entries.{Site}
use Rattle.station_layout.specs.Row.{IsLetGoText, LetsOneGo, NamesLetGo}
use Rattle.station_layout.specs.inside.Joined.{joined}

-- the points that are let go there, with a colon before the first
abbrev pub TellsPoints : Site → RouteId → List SectionId → ℕ → List ℕ → Type 0
TellsPoints l a sections place text = (names : List (List ℕ)) × NamesLetGo l a sections place names × (text ≡ joined (codes ": ") (codes " ") names)

-- after other texts stands that of a section, if points are let go there
abbrev pub AddsLetGo : Site → RouteId → List SectionId → ℕ → List ℕ → Bool → List ℕ → List ℕ → Type 0
AddsLetGo l a sections place before true old new =
    LetsOneGo l a sections place × ((text : List ℕ) × IsLetGoText l a sections place text × (new ≡ old ++ (before ++ text)))
AddsLetGo l a sections place before false old new = (LetsOneGo l a sections place → ⊥) × (new ≡ old)
