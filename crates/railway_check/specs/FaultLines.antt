-- What is told of the faults of a railway: a line each, and where that is asked for a second one, which says in words what is wrong
-- and what to do.
use Rattle.std.specs.Prelude.{ℕ, Bool, true, false, not, List, ◌++◌, codes}
use Rattle.std.specs.List.{flat_map}
use Rattle.railway_layout.specs.Advice.{advice}
use Rattle.railway_layout.specs.Messages.{fault_text, text_fault_text}
use Rattle.railway_layout.specs.declared.fault.Place.{Place}
use Rattle.railway_layout.specs.declared.fault.RailwayFault.{RailwayFault}
use Rattle.railway_layout.specs.declared.fault.RailwayFault.TheVariants as fault
use Rattle.railway_layout.specs.declared.fault.TextFault.{TextFault}
use Rattle.railway_layout.specs.Written.{RailwayText}
use Rattle.railway_check.specs.EntryWords.{text_words}
use Rattle.railway_check.specs.PlaceWords.{place_words}
use Rattle.railway_check.specs.Verdicts.{told_if}

-- ---- where a fault is

abbrev pub place_of : RailwayFault → Place
place_of (fault.DoubleName at name) = at
place_of (fault.Layout at why) = at
place_of (fault.Table at why) = at
place_of (fault.UnknownName at name) = at
place_of (fault.Unseen at) = at
place_of (fault.SameStation at) = at
place_of (fault.DoubleId at) = at
place_of (fault.DoubleBorder at) = at
place_of (fault.NotJoined at) = at
place_of (fault.LockNotRight at route) = at
place_of (fault.LockNotLeft at route) = at
place_of (fault.NoRouteIn at) = at
place_of (fault.ClearElsewhere at) = at
place_of (fault.ClearNotAlone at) = at
place_of (fault.PartHasClear at) = at
place_of (fault.PartLacksTrack at) = at

-- A fault of a station's layout, or of its table. The check of this layout tells it, so it isn't told again.
abbrev pub is_of_layout : RailwayFault → Bool
is_of_layout (fault.Layout at why) = true
is_of_layout (fault.Table at why) = true
is_of_layout _ = false

-- ---- the lines

-- the line of a fault: its number and name, and its place
abbrev pub fault_line : RailwayFault → List ℕ
fault_line f = codes "railway fault " ++ (fault_text f ++ codes "\n")

-- what it means, and what to do
abbrev pub words_line : RailwayText → RailwayFault → List ℕ
words_line railway f = place_words railway (place_of f) ++ (codes ": " ++ (advice f ++ codes "\n"))

abbrev pub fault_lines : Bool → RailwayText → RailwayFault → List ℕ
fault_lines explained railway f = fault_line f ++ told_if explained (words_line railway f)

-- each fault once and in order, but those that the check of a layout tells
abbrev pub told_of : Bool → RailwayText → RailwayFault → List ℕ
told_of explained railway f = told_if (not (is_of_layout f)) (fault_lines explained railway f)

abbrev pub all_told : Bool → RailwayText → List RailwayFault → List ℕ
all_told explained railway faults = flat_map (told_of explained railway) faults

-- ---- of a text that couldn't be read

abbrev pub text_fault_line : TextFault → List ℕ
text_fault_line f = codes "railway fault " ++ (text_fault_text f ++ codes "\n")

abbrev pub text_words_line : TextFault → List ℕ
text_words_line f = text_words f ++ codes "\n"

abbrev pub text_fault_lines : Bool → TextFault → List ℕ
text_fault_lines explained f = text_fault_line f ++ told_if explained (text_words_line f)
