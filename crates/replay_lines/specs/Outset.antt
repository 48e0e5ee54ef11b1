-- How a station lies when it is started, as the first lines of a file for the simulation say: a line for each point that
-- doesn't stand left, and for each section that isn't clear.
--
--     begins POINT left|right|none
--     begins SECTION clear|occupied
use Rattle.std.specs.Prelude.{◌≡◌, ℕ, ◌==◌, ◌++◌, if◌then◌else◌, Bool, true, false, List, [], ◌∷◌, Option, Some, None, Result, Ok, Err}
use Rattle.std.specs.List.{list_all, list_any}
use Rattle.replay_words.specs.declared.fault.Fault.{Fault}
use Rattle.replay_words.specs.declared.fault.Fault.TheVariants.{Words, Name, Order}
use Rattle.replay_words.specs.Fault.{◌>>=◌}
use Rattle.ixl_spec.specs.layout.Entries.{Site}
use Rattle.ixl_spec.specs.sci_telegram.declared.message.Occupancy.{Occupancy}
use Rattle.ixl_spec.specs.sci_telegram.Words.{occupancy_of_word}
use Rattle.replay_lines.specs.declared.line.SimLine.{SimLine}
use Rattle.replay_lines.specs.declared.line.SimLine.TheVariants as said
use Rattle.replay_lines.specs.declared.outset.Begun.{Begun}
use Rattle.replay_lines.specs.declared.outset.Begun.TheVariants as begun
use Rattle.replay_lines.specs.Events.{position_named}
use Rattle.replay_lines.specs.Names.{point_named, section_named}

-- ---- one line

abbrev pub section_begun : Site → List ℕ → Occupancy → Result Begun Fault
section_begun site name occupancy = do
  of ← section_named site name
  Ok (begun.Section of occupancy)

abbrev pub point_begun : Site → List ℕ → List ℕ → Result Begun Fault
point_begun site name side = do
  position ← position_named side
  of ← point_named site name
  Ok (begun.Point of position)

-- by the words after the first; the last one says whether the other names a section or a point
abbrev pub begins : Site → List (List ℕ) → Result Begun Fault
begins site (name ∷ lies ∷ []) = begun_by (occupancy_of_word lies) where
  begun_by : Option Occupancy → Result Begun Fault
  begun_by (Some occupancy) = section_begun site name occupancy
  begun_by None = point_begun site name lies
begins site other = Err Words

-- ---- its place

-- both name the same point, or the same section
abbrev pub name_same : Begun → Begun → Bool
name_same (begun.Point one _) (begun.Point other _) = one.0 == other.0
name_same (begun.Section one _) (begun.Section other _) = one.0 == other.0
name_same one other = false

-- a line says how a point or a section begins
abbrev pub is_begun : SimLine → Bool
is_begun (said.Begins of) = true
is_begun line = false

-- a line says how this point or section begins
abbrev pub begins_same : Begun → SimLine → Bool
begins_same this (said.Begins other) = name_same this other
begins_same this line = false

-- Where a line may stand. One that says how a point or a section begins stands after such lines alone, and none of them
-- names the same.
abbrev pub may_stand : List SimLine → SimLine → Result (Unit {0}) Fault
may_stand earlier (said.Begins this) =
    if list_any (begins_same this) earlier then Err Name
    else if list_all is_begun earlier then Ok tt
    else Err Order
may_stand earlier line = Ok tt

-- ---- the places of all

-- A line that says how a point or a section begins stands after such lines alone, and none of them names the same.
abbrev pub StandsBehind : List SimLine → SimLine → Type 0
StandsBehind earlier (said.Begins this) = (list_all is_begun earlier ≡ true) × (list_any (begins_same this) earlier ≡ false)
StandsBehind earlier line = Unit {0}

-- so it is with each of the lines after earlier ones
abbrev pub AllStandBehind : List SimLine → List SimLine → Type 0
AllStandBehind earlier [] = Unit {0}
AllStandBehind earlier (line ∷ later) = StandsBehind earlier line × AllStandBehind (earlier ++ line ∷ []) later
