-- What a detector has been told by its contacts, and what it has reported.
use Rattle.std.specs.Prelude.{◌≡◌, ℕ, zero, suc, Bool, true, false, not, List, [], ◌∷◌, map, if◌then◌else◌}
use Rattle.sci_telegram.specs.declared.message.Occupancy.{Occupancy}
use Rattle.object_host.specs.declared.sense.Sense.TheVariants as sense
use Rattle.tds_ctl.specs.declared.section.Section.{Section}
use Rattle.object_host.specs.Object.{ObjectCall, Senses, Pays, Loses, object_after}
use Rattle.tds_ctl.specs.Controlled.{detection_behaviour}
use Rattle.tds_ctl.specs.Sections.{is_same, sensing, paying, losing}

-- whether the section at a place owes its status; there is none beyond the last
abbrev pub owes_at : ℕ → List Section → Bool
owes_at place [] = false
owes_at zero (section ∷ rest) = section.owes
owes_at (suc place) (section ∷ rest) = owes_at place rest

-- whether a contact's word changes the section at a place
abbrev pub changes_at : ℕ → Occupancy → List Section → Bool
changes_at place occupancy [] = false
changes_at zero occupancy (section ∷ rest) = not (is_same occupancy section.occupancy)
changes_at (suc place) occupancy (section ∷ rest) = changes_at place occupancy rest

-- what the contact of the section at a place tells
abbrev pub changing : ℕ → Occupancy → List Section → List Section
changing place occupancy sections = sensing (sense.Section place occupancy) sections

-- a call that changes the section at a place
abbrev pub IsChange : ℕ → ObjectCall → List Section → Type 0
IsChange place (Senses now (sense.Section at occupancy)) sections = (at ≡ place) × (changes_at place occupancy sections ≡ true)
IsChange place _ sections = ⊥

-- the section at a place is the first that owes
abbrev pub is_first : ℕ → List Section → Bool
is_first place [] = false
is_first zero (section ∷ rest) = section.owes
is_first (suc place) (section ∷ rest) = if section.owes then false else is_first place rest

-- the status of the section at a place is sent or dropped by a call
abbrev pub is_settled : ℕ → ObjectCall → List Section → Bool
is_settled place Pays sections = is_first place sections
is_settled place Loses sections = true
is_settled place _ sections = false

-- none of these calls sends or drops the status of the section at a place
abbrev pub StaysOwed : ℕ → List ObjectCall → List Section → Type 0
StaysOwed place [] sections = Unit {0}
StaysOwed place (call ∷ calls) sections =
    (is_settled place call sections ≡ false) × StaysOwed place calls (object_after detection_behaviour call sections)

-- the sections, and the state of each that was told last: by a status of its own, or by the initial status, which
-- tells the states as they are after a loss
pub record History : Type 0 where
  pub sections : List Section
  pub told : List Occupancy

abbrev pub occupancies : List Section → List Occupancy
occupancies sections = map (λ section. section.occupancy) sections

-- the first section that owes is told as it is
abbrev pub telling : List Section → List Occupancy → List Occupancy
telling [] told = told
telling (section ∷ rest) [] = []
telling (section ∷ rest) (last ∷ told) =
    if section.owes then section.occupancy ∷ told else last ∷ telling rest told

abbrev pub next : ObjectCall → History → History
next Pays old = record { sections = paying old.sections; told = telling old.sections old.told }
next Loses old = record { sections = losing old.sections; told = occupancies old.sections }
next call old = record old { sections = object_after detection_behaviour call old.sections }

abbrev pub told_by : List ObjectCall → History → History
told_by [] old = old
told_by (call ∷ calls) old = told_by calls (next call old)

abbrev pub begun_at : List Section → History
begun_at sections = record { sections = sections; told = occupancies sections }

-- what a section doesn't owe was told as it is
abbrev pub AreTold : List Section → List Occupancy → Type 0
AreTold [] [] = Unit {0}
AreTold (section ∷ rest) (last ∷ told) = (section.owes ≡ false → last ≡ section.occupancy) × AreTold rest told
AreTold [] (last ∷ told) = ⊥
AreTold (section ∷ rest) [] = ⊥

pub record IsKnown (history : History) : Type 0 where
  pub known : AreTold history.sections history.told
