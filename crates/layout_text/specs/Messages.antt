-- What is printed for a fault: its number and name, and the table and the place of the faulty entry.
use Rattle.std.specs.Prelude.{ℕ, List, ◌++◌, codes}
use Rattle.std.specs.Fmt.{decimal}
use Rattle.layout_text.specs.declared.fault.LayoutFault.{LayoutFault}
use Rattle.layout_text.specs.declared.fault.LayoutFault.TheVariants.{Toml, MissingKey, WrongKind, UnknownName, DoubleName, DoubleJoint, Limit, OutOfMemory}
use Rattle.layout_text.specs.declared.fault.Place.{Place}
use Rattle.layout_text.specs.declared.fault.TableName.{TableName}
use Rattle.layout_text.specs.declared.fault.TableName.TheVariants.{Station, Section, Track, Point, Border, Joint, Signal, Detector, Route}

abbrev pub table_text : TableName → List ℕ
table_text Station = codes "station"
table_text Section = codes "section"
table_text Track = codes "track"
table_text Point = codes "point"
table_text Border = codes "border"
table_text Joint = codes "joint"
table_text Signal = codes "signal"
table_text Detector = codes "detector"
table_text Route = codes "route"

abbrev pub place_text : Place → List ℕ
place_text place = table_text place.table ++ (codes " " ++ decimal place.entry)

abbrev pub fault_text : LayoutFault → List ℕ
fault_text Toml = codes "1 Toml"
fault_text (MissingKey place) = codes "2 MissingKey at " ++ place_text place
fault_text (WrongKind place) = codes "3 WrongKind at " ++ place_text place
fault_text (UnknownName place) = codes "4 UnknownName at " ++ place_text place
fault_text (DoubleName place) = codes "5 DoubleName at " ++ place_text place
fault_text (DoubleJoint place) = codes "6 DoubleJoint at " ++ place_text place
fault_text (Limit place) = codes "7 Limit at " ++ place_text place
fault_text OutOfMemory = codes "8 OutOfMemory"
