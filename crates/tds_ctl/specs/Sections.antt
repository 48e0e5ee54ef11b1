-- The sections of a detector: what each call of its controller does. The rules are this project's own.
use Rattle.std.specs.Prelude.{ℕ, zero, suc, Bool, true, false, List, [], ◌∷◌, map, find, position, slice_get, Option, Some, option_map, if◌then◌else◌}
use Rattle.sci_telegram.specs.declared.message.Occupancy.{Occupancy}
use Rattle.sci_telegram.specs.declared.message.Occupancy.TheVariants.{Clear, Occupied}
use Rattle.sci_telegram.specs.declared.message.DetectionMessage.TheVariants.{OccupancyStatus}
use Rattle.sci_telegram.specs.declared.message.Message.TheVariants.{Detection}
use Rattle.object_host.specs.declared.report.Report.{Report}
use Rattle.object_host.specs.declared.sense.Sense.{Sense}
use Rattle.object_host.specs.declared.sense.Sense.TheVariants as sense
use Rattle.tds_ctl.specs.declared.section.Section.{Section}

-- a section of a name as it is when its detector is made: it owes nothing
abbrev pub made : List ℕ × Occupancy → Section
made named = record { name = named.0; occupancy = named.1; owes = false }

abbrev pub is_same : Occupancy → Occupancy → Bool
is_same Clear Clear = true
is_same Occupied Occupied = true
is_same Clear Occupied = false
is_same Occupied Clear = false

-- a contact tells the state of its section; a change of it is owed
abbrev pub changed : Occupancy → Section → Section
changed occupancy section =
    if is_same occupancy section.occupancy then section else record section { occupancy = occupancy; owes = true }

-- a section that owes nothing
abbrev pub settled : Section → Section
settled section = record section { owes = false }

-- what a section tells of itself: its present state, under its own name
abbrev pub status_of : Section → Report
status_of section = record { section = Some section.name; message = Detection (OccupancyStatus section.occupancy) }

abbrev pub owes : Section → Bool
owes section = section.owes

-- the sections with the one at a place, counted from 0, changed
abbrev pub with_section : ℕ → (Section → Section) → List Section → List Section
with_section place change [] = []
with_section zero change (section ∷ rest) = change section ∷ rest
with_section (suc place) change (section ∷ rest) = section ∷ with_section place change rest

-- a contact of one section tells its state; the contact of a point, or of a section beyond the last, says nothing
abbrev pub sensing : Sense → List Section → List Section
sensing (sense.Section place occupancy) sections = with_section place (changed occupancy) sections
sensing (sense.Position position) sections = sections

-- the report that is owed: the present state of the first section that owes
abbrev pub owing : List Section → Option Report
owing sections = option_map status_of (find owes sections)

-- that report was sent
abbrev pub paying : List Section → List Section
paying [] = []
paying (section ∷ rest) = if section.owes then settled section ∷ rest else section ∷ paying rest

-- with the link all that is owed is dropped
abbrev pub losing : List Section → List Section
losing sections = map settled sections

-- the initial status: every section in order
abbrev pub status_at : ℕ → List Section → Option Report
status_at place sections = option_map status_of (slice_get sections place)
