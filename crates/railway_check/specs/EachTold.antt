-- That each fault of a railway is told.
use Rattle.std.specs.Prelude.{◌≡◌, ℕ, false, List, ◌++◌}
use Rattle.std.specs.List.{Contains}
use Rattle.railway_layout.specs.declared.fault.RailwayFault.{RailwayFault}
use Rattle.railway_check.specs.FaultLines.{fault_line, is_of_layout}

-- a text has a part somewhere
abbrev pub HasPart : List ℕ → List ℕ → Type 0
HasPart text part = (front : List ℕ) × (rest : List ℕ) × (text ≡ front ++ (part ++ rest))

-- A text has the line of each of these faults, but of those that the check of a layout tells.
abbrev pub TellsEach : List RailwayFault → List ℕ → Type 0
TellsEach faults text = (f : RailwayFault) → Contains faults f → is_of_layout f ≡ false → HasPart text (fault_line f)
