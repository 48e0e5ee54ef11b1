-- What is printed for a fault: its number and name, and its place.
use Rattle.std.specs.Prelude.{ℕ, List, ◌++◌, codes}
use Rattle.std.specs.Fmt.{decimal}
use Rattle.layout_text.specs.Messages.{fault_text as layout_fault_text}
use Rattle.control_table.specs.Messages.{fault_text as table_fault_text}
use Rattle.railway_layout.specs.declared.fault.Place.{Place}
use Rattle.railway_layout.specs.declared.fault.Place.TheVariants as place
use Rattle.railway_layout.specs.declared.fault.TextFault.{TextFault}
use Rattle.railway_layout.specs.declared.fault.TextFault.TheVariants.{Toml, MissingKey, WrongKind, OutOfMemory}
use Rattle.railway_layout.specs.declared.fault.RailwayFault.{RailwayFault}
use Rattle.railway_layout.specs.declared.fault.RailwayFault.TheVariants as fault

abbrev pub place_text : Place → List ℕ
place_text (place.Station n) = codes "station " ++ decimal n
place_text (place.Line n) = codes "line " ++ decimal n
place_text (place.First n) = codes "line " ++ (decimal n ++ codes " first")
place_text (place.Second n) = codes "line " ++ (decimal n ++ codes " second")

abbrev pub text_fault_text : TextFault → List ℕ
text_fault_text Toml = codes "1 Toml"
text_fault_text (MissingKey at) = codes "2 MissingKey at " ++ place_text at
text_fault_text (WrongKind at) = codes "3 WrongKind at " ++ place_text at
text_fault_text OutOfMemory = codes "out of memory"

abbrev pub fault_text : RailwayFault → List ℕ
fault_text (fault.DoubleName at name) = codes "4 DoubleName at " ++ (place_text at ++ (codes ": " ++ name))
fault_text (fault.Layout at why) = codes "5 Layout at " ++ (place_text at ++ (codes ": " ++ layout_fault_text why))
fault_text (fault.Table at why) = codes "6 Table at " ++ (place_text at ++ (codes ": " ++ table_fault_text why))
fault_text (fault.UnknownName at name) = codes "7 UnknownName at " ++ (place_text at ++ (codes ": " ++ name))
fault_text (fault.Unseen at) = codes "8 Unseen at " ++ place_text at
fault_text (fault.SameStation at) = codes "9 SameStation at " ++ place_text at
fault_text (fault.DoubleId at) = codes "10 DoubleId at " ++ place_text at
fault_text (fault.DoubleBorder at) = codes "11 DoubleBorder at " ++ place_text at
fault_text (fault.NotJoined at) = codes "12 NotJoined at " ++ place_text at
fault_text (fault.LockNotRight at route) = codes "13 LockNotRight at " ++ (place_text at ++ (codes ": route " ++ route))
fault_text (fault.LockNotLeft at route) = codes "14 LockNotLeft at " ++ (place_text at ++ (codes ": route " ++ route))
fault_text (fault.NoRouteIn at) = codes "15 NoRouteIn at " ++ place_text at
fault_text (fault.ClearElsewhere at) = codes "16 ClearElsewhere at " ++ place_text at
fault_text (fault.ClearNotAlone at) = codes "17 ClearNotAlone at " ++ place_text at
fault_text (fault.PartHasClear at) = codes "18 PartHasClear at " ++ place_text at
fault_text (fault.PartLacksTrack at) = codes "19 PartLacksTrack at " ++ place_text at
