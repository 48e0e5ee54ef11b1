-- What the text of a layout writes: the tests for missing keys and wrong kinds, in reading order.
use Rattle.std.specs.Prelude.{ℕ, List, [], ◌∷◌, codes, Option, Some, None, Ok, Err}
use Rattle.toml.specs.Data.{Data, Members, no_members, member, get_member}
use Rattle.sci_telegram.specs.declared.message.Aspect.{Aspect}
use Rattle.sci_telegram.specs.declared.message.Aspect.TheVariants.{Proceed}
use Rattle.sci_telegram.specs.declared.message.Side.{Side}
use Rattle.layout_text.specs.declared.fault.LayoutFault.TheVariants.{Toml, WrongKind}
use Rattle.layout_text.specs.declared.fault.Place.{Place}
use Rattle.layout_text.specs.declared.fault.TableName.{TableName}
use Rattle.layout_text.specs.declared.fault.TableName.TheVariants as named
use Rattle.layout_text.specs.declared.entries.Station.{Station}
use Rattle.layout_text.specs.declared.entries.PortName.{PortName}
use Rattle.layout_text.specs.declared.entries.WrittenTrack.{WrittenTrack}
use Rattle.layout_text.specs.declared.entries.WrittenPoint.{WrittenPoint}
use Rattle.layout_text.specs.declared.entries.WrittenJoint.{WrittenJoint}
use Rattle.layout_text.specs.declared.entries.WrittenSignal.{WrittenSignal}
use Rattle.layout_text.specs.FirstFault.{Read, ◌>>=◌, each_of, all_of}
use Rattle.layout_text.specs.Values.{field_at, array_at, table_at, name_of, name_at, id_at, port_at, side_at, aspect_at, key_at}
use Rattle.layout_text.specs.Written.{DetectorText, RouteText, LayoutText}

-- ---- lists inside an entry, all at the place of the entry

unfoldable pub names_at : Place → Data → Read (List (List ℕ))
names_at place d = array_at place d >>= λ items. all_of (name_at place) items

unfoldable pub ports_at : Place → Data → Read (List PortName)
ports_at place d = array_at place d >>= λ items. all_of (port_at place) items

-- points and the sides at which they have to lie
unfoldable pub sides_of : Place → Members → Read (List (List ℕ × Side))
sides_of place no_members = Ok []
sides_of place (member key d rest) = do
  name ← name_of place key
  side ← side_at place d
  others ← sides_of place rest
  Ok ((name, side) ∷ others)

unfoldable pub sides_at : Place → Data → Read (List (List ℕ × Side))
sides_at place d = table_at place d >>= λ members. sides_of place members

-- a list that is left out is empty
abbrev pub list_or_empty : {A : Type 0} → (Data → Read (List A)) → Option Data → Read (List A)
list_or_empty read None = Ok []
list_or_empty read (Some d) = read d

-- two ports, and no more
abbrev pub pair_of : Place → List Data → Read WrittenJoint
pair_of place (p ∷ q ∷ []) = do
  first ← port_at place p
  second ← port_at place q
  Ok (record { first = first; second = second })
pair_of place _ = Err (WrongKind place)

-- an aspect that is left out is proceed
abbrev pub aspect_or_proceed : Place → Option Data → Read Aspect
aspect_or_proceed place None = Ok Proceed
aspect_or_proceed place (Some d) = aspect_at place d

-- a key that is left out is none
abbrev pub key_or_none : Place → Option Data → Read (Option (List ℕ))
key_or_none place None = Ok None
key_or_none place (Some d) = key_at place d >>= λ key. Ok (Some key)

-- ---- fields that have to be there

unfoldable pub name_field : List ℕ → Place → Members → Read (List ℕ)
name_field key place fields = field_at key place fields >>= λ d. name_at place d

unfoldable pub id_field : List ℕ → Place → Members → Read ℕ
id_field key place fields = field_at key place fields >>= λ d. id_at place d

unfoldable pub port_field : List ℕ → Place → Members → Read PortName
port_field key place fields = field_at key place fields >>= λ d. port_at place d

unfoldable pub names_field : List ℕ → Place → Members → Read (List (List ℕ))
names_field key place fields = field_at key place fields >>= λ d. names_at place d

unfoldable pub ports_field : List ℕ → Place → Members → Read (List PortName)
ports_field key place fields = field_at key place fields >>= λ d. ports_at place d

unfoldable pub sides_field : List ℕ → Place → Members → Read (List (List ℕ × Side))
sides_field key place fields = field_at key place fields >>= λ d. sides_at place d

-- ---- the entries

unfoldable pub station_at : Place → Data → Read Station
station_at place d = do
  fields ← table_at place d
  name ← name_field (codes "name") place fields
  id ← id_field (codes "id") place fields
  key ← key_or_none place (get_member (codes "key") fields)
  Ok (record { name = name; id = id; key = key })

unfoldable pub track_at : Place → Data → Read WrittenTrack
track_at place d = do
  fields ← table_at place d
  name ← name_field (codes "name") place fields
  section ← name_field (codes "section") place fields
  Ok (record { name = name; section = section })

unfoldable pub point_at : Place → Data → Read WrittenPoint
point_at place d = do
  fields ← table_at place d
  name ← name_field (codes "name") place fields
  id ← id_field (codes "id") place fields
  section ← name_field (codes "section") place fields
  Ok (record { name = name; id = id; section = section })

unfoldable pub joint_at : Place → Data → Read WrittenJoint
joint_at place d = array_at place d >>= λ ports. pair_of place ports

unfoldable pub signal_at : Place → Data → Read WrittenSignal
signal_at place d = do
  fields ← table_at place d
  name ← name_field (codes "name") place fields
  id ← id_field (codes "id") place fields
  at ← port_field (codes "at") place fields
  Ok (record { name = name; id = id; at = at })

unfoldable pub detector_at : Place → Data → Read DetectorText
detector_at place d = do
  fields ← table_at place d
  name ← name_field (codes "name") place fields
  id ← id_field (codes "id") place fields
  sections ← names_field (codes "sections") place fields
  Ok (record { name = name; id = id; sections = sections })

unfoldable pub route_at : Place → Data → Read RouteText
route_at place d = do
  fields ← table_at place d
  name ← name_field (codes "name") place fields
  entry ← name_field (codes "entry") place fields
  exit ← name_field (codes "exit") place fields
  path ← ports_field (codes "path") place fields
  points ← sides_field (codes "points") place fields
  flank ← list_or_empty (sides_at place) (get_member (codes "flank") fields)
  approach ← list_or_empty (names_at place) (get_member (codes "approach") fields)
  extra ← list_or_empty (names_at place) (get_member (codes "extra") fields)
  aspect ← aspect_or_proceed place (get_member (codes "aspect") fields)
  Ok (record { name = name; entry = entry; exit = exit; path = path; points = points; flank = flank; approach = approach; extra = extra; aspect = aspect })

-- ---- the tables

-- a key itself stands at place 0
abbrev pub key_place : TableName → Place
key_place table = record { table = table; entry = 0 }

-- the items of the array under a key
unfoldable pub items_at : List ℕ → TableName → Members → Read (List Data)
items_at key table document = field_at key (key_place table) document >>= λ d. array_at (key_place table) d

-- the entries of a table, read one after the other from place 1 on
unfoldable pub entries_at : {A : Type 0} → List ℕ → TableName → (Place → Data → Read A) → Members → Read (List A)
entries_at key table entry document = items_at key table document >>= λ items. each_of entry table 1 items

-- the station is a table of its own, at place 1
unfoldable pub station_in : Members → Read Station
station_in document = do
  d ← field_at (codes "station") (key_place named.Station) document
  fields ← table_at (key_place named.Station) d
  station_at (record { table = named.Station; entry = 1 }) d

-- all that a layout's text writes; other keys are ignored
unfoldable pub text_of : Members → Read LayoutText
text_of document = do
  station ← station_in document
  sections ← entries_at (codes "section") named.Section name_at document
  tracks ← entries_at (codes "track") named.Track track_at document
  points ← entries_at (codes "point") named.Point point_at document
  borders ← entries_at (codes "border") named.Border name_at document
  joints ← entries_at (codes "joint") named.Joint joint_at document
  signals ← entries_at (codes "signal") named.Signal signal_at document
  detectors ← entries_at (codes "detector") named.Detector detector_at document
  routes ← entries_at (codes "route") named.Route route_at document
  Ok (record { station = station; sections = sections; tracks = tracks; points = points; borders = borders; joints = joints; signals = signals; detectors = detectors; routes = routes })

-- the document that a text is, where it is TOML
abbrev pub document_of : Option Members → Read Members
document_of None = Err Toml
document_of (Some document) = Ok document
