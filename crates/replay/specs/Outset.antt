-- How the station of a file lies when it is started: as the first lines of the file say.
use Rattle.std.specs.Prelude.{◌≡◌, ◌<◌, ℕ, List, [], ◌∷◌, length, Some, slice_get, slice_set}
use Rattle.std.specs.List.{Contains}
use Rattle.replay_lines.specs.declared.line.SimLine.{SimLine}
use Rattle.replay_lines.specs.declared.line.SimLine.TheVariants as said
use Rattle.replay_lines.specs.declared.outset.Begun.{Begun}
use Rattle.replay_lines.specs.declared.outset.Begun.TheVariants as begun
use Rattle.simulator.specs.layout.Entries.{Site}
use Rattle.simulator.specs.sci_telegram.declared.message.Occupancy.TheVariants as occupancies
use Rattle.simulator.specs.sci_telegram.declared.message.Position.TheVariants as positions
use Rattle.simulator.specs.simulator_spec.First.{Outset, at_rest}

-- ---- step by step

-- one point or section lies otherwise
abbrev pub begun_in : Outset → Begun → Outset
begun_in outset (begun.Point point position) = record outset { positions = slice_set outset.positions point.0 position }
begun_in outset (begun.Section section occupancy) = record outset { occupancies = slice_set outset.occupancies section.0 occupancy }

abbrev pub line_in : Outset → SimLine → Outset
line_in outset (said.Begins of) = begun_in outset of
line_in outset line = outset

abbrev pub lines_in : Outset → List SimLine → Outset
lines_in outset [] = outset
lines_in outset (line ∷ later) = lines_in (line_in outset line) later

-- every point stands left and every section is clear, but where a line says otherwise
abbrev pub outset_of : Site → List SimLine → Outset
outset_of site lines = lines_in (at_rest site) lines

-- ---- all at once

-- How so many things lie, one at each place: as is said of it, and otherwise where nothing is said.
pub record LieAsSaid {Lies : Type 0} (Says : ℕ → Lies → Type 0) (otherwise : Lies) (count : ℕ) (list : List Lies) : Type 0 where
  pub each : length list ≡ count
  pub said : (place : ℕ) (lies : Lies) → place < count → Says place lies → slice_get list place ≡ Some lies
  pub others : (place : ℕ) → place < count → ((lies : Lies) → Says place lies → ⊥) → slice_get list place ≡ Some otherwise

-- A station lies as lines say: each point stands as the line says that names it, or left, and each section is as the line
-- says that names it, or clear.
pub record LiesAs (site : Site) (lines : List SimLine) (outset : Outset) : Type 0 where
  pub points : LieAsSaid (λ place position. Contains lines (said.Begins (begun.Point (record { 0 = place }) position))) positions.Left (length site.points) outset.positions
  pub sections : LieAsSaid (λ place occupancy. Contains lines (said.Begins (begun.Section (record { 0 = place }) occupancy))) occupancies.Clear (length site.sections) outset.occupancies
