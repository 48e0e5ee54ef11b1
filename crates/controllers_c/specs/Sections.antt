-- The sections of a detector, and what their contacts tell, as C tells it.
use Rattle.std.specs.Prelude.{ℕ, zero, suc, ◌++◌, List, [], ◌∷◌, length, Option, Some, None}
use Rattle.sci_telegram.specs.Names.{IsName}
use Rattle.sci_telegram.specs.declared.message.Occupancy.{Occupancy}
use Rattle.sci_telegram.specs.declared.message.Occupancy.TheVariants as occupancies
use Rattle.object_host.specs.declared.sense.Sense.{Sense}
use Rattle.object_host.specs.declared.sense.Sense.TheVariants as senses

abbrev pub occupancy_of : ℕ → Option Occupancy
occupancy_of zero = Some occupancies.Clear
occupancy_of (suc zero) = Some occupancies.Occupied
occupancy_of (suc (suc more)) = None

-- what the contacts of the section at this place, counted from 0, tell
abbrev pub sensed_by : ℕ → Option Occupancy → Option Sense
sensed_by place None = None
sensed_by place (Some occupancy) = Some (senses.Section place occupancy)

-- how a section is told: how it stands, 0 clear or 1 occupied, how many bytes its name has, and its name
abbrev pub state_number : Occupancy → ℕ
state_number occupancies.Clear = 0
state_number occupancies.Occupied = 1

abbrev pub spelled : List ℕ × Occupancy → List ℕ
spelled section = state_number section.1 ∷ length section.0 ∷ section.0

-- one section after another
abbrev pub spelled_all : List (List ℕ × Occupancy) → List ℕ
spelled_all [] = []
spelled_all (first ∷ others) = spelled first ++ spelled_all others

-- each has a name
abbrev pub AreNamed : List (List ℕ × Occupancy) → Type 0
AreNamed [] = Unit {0}
AreNamed (first ∷ others) = IsName first.0 × AreNamed others
