-- The report on a layout whose control table is sound.
use Rattle.std.specs.Prelude.{◌≡◌, ℕ, zero, suc, ◌+◌, ◌-◌, ◌⊎◌, List, [], ◌++◌, length, codes, Ok, slice_get, Option, if◌then◌else◌}
use Rattle.std.specs.List.{flat_map}
use Rattle.std.specs.Fmt.{decimal}
use Rattle.std.specs.Option.{option_map, unwrap_or}
use Rattle.std.specs.Io.KnownBytes.{Appends}
use Rattle.control_table.specs.layout.Entries.{RouteEntry, Site}
use Rattle.control_table.specs.layout.NamesResolved.{layout_in}
use Rattle.control_table.specs.Table.{Sound, Conflict, is_slow}

-- how many signals, points, sections and routes a station has
abbrev pub summary_text : ℕ → ℕ → ℕ → ℕ → List ℕ
summary_text signals points sections routes =
    codes "ok: " ++ (decimal signals ++ (codes " signals, " ++ (decimal points ++ (codes " points, "
    ++ (decimal sections ++ (codes " sections, " ++ (decimal routes ++ codes " routes")))))))

abbrev pub summary_line : Site → List ℕ
summary_line l = summary_text (length l.signals) (length l.points) (length l.sections) (length l.routes) ++ codes "\n"

-- two routes that conflict
abbrev pub conflict_text : List ℕ → List ℕ → List ℕ
conflict_text earlier later = codes "conflict " ++ (earlier ++ (codes " " ++ later))

unfoldable pub route_name : Site → ℕ → List ℕ
route_name l n = unwrap_or (option_map (λ r. r.name) (slice_get l.routes n)) []

abbrev pub conflict_line : Site → ℕ → ℕ → List ℕ
conflict_line l a b = conflict_text (route_name l a) (route_name l b) ++ codes "\n"

-- What is told of two routes: a line where they conflict, and nothing where they don't.
abbrev pub TellsPair : Site → ℕ → ℕ → List ℕ → Type 0
TellsPair l a b text =
    let conflict = Conflict l (record { 0 = a }) (record { 0 = b }) in
    (conflict × (text ≡ conflict_line l a b)) ⊎ ((conflict → ⊥) × (text ≡ []))

-- A text tells with which of the k routes after route a this route conflicts, one after the other.
unfoldable pub TellsBehind : Site → ℕ → ℕ → List ℕ → Type 0
TellsBehind l a zero text = text ≡ []
TellsBehind l a (suc k) text = (front : List ℕ) × (line : List ℕ) × TellsBehind l a k front × TellsPair l a (a + suc k) line × (text ≡ front ++ line)

-- A text is the report as far as the first k routes: how large the station is, and the conflicts of each of them with
-- those after it.
unfoldable pub TellsRoutes : Site → ℕ → List ℕ → Type 0
TellsRoutes l zero text = text ≡ summary_line l
TellsRoutes l (suc k) text =
    (front : List ℕ) × (lines : List ℕ) × TellsRoutes l k front × TellsBehind l k (length l.routes - suc k) lines × (text ≡ front ++ lines)

-- a route that is passed slowly
abbrev pub slow_text : List ℕ → List ℕ
slow_text route = codes "slow " ++ route

-- What is told of a route's aspect: a line where it is slow.
abbrev pub slow_line : RouteEntry → List ℕ
slow_line r = if is_slow r.aspect then slow_text r.name ++ codes "\n" else []

-- The slow routes, in table order.
abbrev pub slow_lines : List RouteEntry → List ℕ
slow_lines routes = flat_map slow_line routes

-- The report on a sound table: how large the station is, the conflicts, and the slow routes.
abbrev pub IsReport : Site → List ℕ → Type 0
IsReport l text = (front : List ℕ) × TellsRoutes l (length l.routes) front × (text ≡ front ++ slow_lines l.routes)

-- A text is a layout whose control table is sound.
abbrev pub IsSound : List ℕ → Site → Type 0
IsSound text site = (layout_in text ≡ Ok site) × Sound site

-- The report was written.
abbrev pub Reported : Site → Option (List ℕ) → Option (List ℕ) → Type 0
Reported l old new = (text : List ℕ) × IsReport l text × Appends old new text
