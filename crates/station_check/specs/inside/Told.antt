-- What was told of a report that is being written: what a writer held and holds, where it is known.
use Rattle.std.specs.Prelude.{ℕ, List, Option}
use Rattle.std.specs.Io.KnownBytes.{Appends}
use Rattle.control_table.specs.layout.Entries.{RouteEntry, Site}
use Rattle.station_check.specs.Report.{TellsPair, TellsBehind, TellsRoutes, slow_lines}

-- What stands between what a writer held and what it holds.
abbrev pub ToldPair : Site → ℕ → ℕ → Option (List ℕ) → Option (List ℕ) → Type 0
ToldPair l a b old new = (text : List ℕ) × TellsPair l a b text × Appends old new text

abbrev pub ToldBehind : Site → ℕ → ℕ → Option (List ℕ) → Option (List ℕ) → Type 0
ToldBehind l a k old new = (text : List ℕ) × TellsBehind l a k text × Appends old new text

abbrev pub ToldRoutes : Site → ℕ → Option (List ℕ) → Option (List ℕ) → Type 0
ToldRoutes l k old new = (text : List ℕ) × TellsRoutes l k text × Appends old new text

-- the slow routes of these were told
abbrev pub ToldSlow : List RouteEntry → Option (List ℕ) → Option (List ℕ) → Type 0
ToldSlow routes old new = Appends old new (slow_lines routes)
