-- The first name that no entry has, in words of a layout's text.
use Rattle.std.specs.Prelude.{◌≡◌, ◌⊎◌, ℕ, true, List, [], ◌∷◌, ◌++◌, map}
use Rattle.std.specs.List.{All, Contains}
use Rattle.layout_text.specs.declared.fault.Place.{Place}
use Rattle.layout_text.specs.declared.fault.TableName.{TableName}
use Rattle.layout_text.specs.declared.fault.TableName.TheVariants as named
use Rattle.layout_text.specs.declared.entries.End.{End}
use Rattle.layout_text.specs.declared.entries.End.TheVariants as end
use Rattle.layout_text.specs.Written.{RouteText, LayoutText}
use Rattle.layout.specs.Known.{same_name}
use Rattle.layout.specs.Faults.{numbered, listed, names_written, sections_written}

-- ---- the names that a text uses

-- A use of a name: an entry of one of these tables has to have it.
pub record Use : Type 0 where
  pub name : List ℕ
  pub tables : List TableName

abbrev pub section_use : List ℕ → Use
section_use name = record { name = name; tables = named.Section ∷ [] }

abbrev pub point_use : List ℕ → Use
point_use name = record { name = name; tables = named.Point ∷ [] }

abbrev pub signal_use : List ℕ → Use
signal_use name = record { name = name; tables = named.Signal ∷ [] }

abbrev pub route_use : List ℕ → Use
route_use name = record { name = name; tables = named.Route ∷ [] }

-- A route ends at a signal or at a border.
abbrev pub exit_use : List ℕ → Use
exit_use name = record { name = name; tables = named.Signal ∷ named.Border ∷ [] }

-- A track has the ports a and b, a point tip, left and right, a border end.
abbrev pub table_with : End → TableName
table_with end.A = named.Track
table_with end.B = named.Track
table_with end.Tip = named.Point
table_with end.Left = named.Point
table_with end.Right = named.Point
table_with end.End = named.Border

-- A port names an element that has it.
abbrev pub port_use : List ℕ → End → Use
port_use element port = record { name = element; tables = table_with port ∷ [] }

-- The names that a route uses, in reading order.
abbrev pub used_by_route : RouteText → List Use
used_by_route r =
    signal_use r.entry ∷ exit_use r.exit ∷ (map (λ p. port_use p.element p.end) r.path ++ (map (λ p. point_use p.0) r.points
    ++ (map (λ p. point_use p.0) r.flank ++ (map section_use r.approach ++ map route_use r.extra))))

-- All names that a text uses, in reading order, each with the place of the entry that uses it.
unfoldable pub names_used : LayoutText → List (Use × Place)
names_used text =
    listed (λ t. section_use t.section ∷ []) named.Track 1 text.tracks
    ++ (listed (λ p. section_use p.section ∷ []) named.Point 1 text.points
    ++ (listed (λ j. port_use j.first.element j.first.end ∷ port_use j.second.element j.second.end ∷ []) named.Joint 1 text.joints
    ++ (listed (λ s. port_use s.at.element s.at.end ∷ []) named.Signal 1 text.signals
    ++ (listed (λ d. map section_use d.sections) named.Detector 1 text.detectors
    ++ listed used_by_route named.Route 1 text.routes))))

-- ---- what has to be there

-- An entry of one of the tables has the name.
pub record IsNamed (text : LayoutText) (u : Use) : Type 0 where
  pub name : List ℕ
  pub place : Place
  pub entry : Contains (names_written text) (name, place)
  pub same : same_name u.name name ≡ true
  pub table : Contains u.tables place.table

-- A detection controller lists the section.
pub record IsReported (text : LayoutText) (section : List ℕ) : Type 0 where
  pub name : List ℕ
  pub place : Place
  pub listed : Contains (sections_written text) (name, place)
  pub same : same_name section name ≡ true

-- ---- the first that isn't there

-- The first that doesn't hold stands at this place: each earlier one holds.
pub record IsFirstNot {A : Type 0} (holds : A → Type 0) (xs : List (A × Place)) (place : Place) : Type 0 where
  pub earlier : List (A × Place)
  pub it : A
  pub later : List (A × Place)
  pub stands : xs ≡ earlier ++ (it, place) ∷ later
  pub held : All (λ x. holds x.0) earlier
  pub fails : holds it → ⊥

-- The first name that no entry has; or else, where each has one, the first section that no detection controller lists.
abbrev pub IsFirstUnknown : LayoutText → Place → Type 0
IsFirstUnknown text place =
    IsFirstNot (IsNamed text) (names_used text) place
    ⊎ (All (λ u. IsNamed text u.0) (names_used text) × IsFirstNot (IsReported text) (numbered named.Section 1 text.sections) place)

-- Each name that is used is that of an entry, and each section is reported.
pub record NamesWhatIsThere (text : LayoutText) : Type 0 where
  pub names : All (λ u. IsNamed text u.0) (names_used text)
  pub sections : All (IsReported text) text.sections
