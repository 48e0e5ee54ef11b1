-- Which earlier entry has what a later one has too. A first entry is the first in the order in which the text is read.
use Rattle.std.specs.Prelude.{ℕ, zero, suc, ◌==◌, ◌+◌, ◌-◌, ◌&&◌, ◌||◌, Bool, false, length, List, [], ◌∷◌, Option, Some, None, slice_get, option_and_then, if◌then◌else◌}
use Rattle.std.specs.List.{list_any}
use Rattle.std.specs.Option.{option_map, option_or}
use Rattle.control_table.specs.layout.Known.{same_name}
use Rattle.control_table.specs.layout.NamesResolved.{table_number}
use Rattle.layout_text.specs.Written.{DetectorText, LayoutText}
use Rattle.layout_text.specs.declared.entries.PortName.{PortName}
use Rattle.layout_text.specs.declared.entries.WrittenJoint.{WrittenJoint}
use Rattle.layout_text.specs.declared.fault.Place.{Place}
use Rattle.layout_text.specs.declared.fault.TableName.{TableName}
use Rattle.layout_text.specs.declared.fault.TableName.TheVariants as named
use Rattle.station_layout.specs.Joints.{same_end}
use Rattle.station_layout.specs.Places.{counted, some_and}
use Rattle.station_layout.specs.Search.{first_of}
use Rattle.station_layout.specs.declared.advice.EntryAdvice.{EntryAdvice}
use Rattle.station_layout.specs.declared.advice.EntryAdvice.TheVariants.{Shared}
use Rattle.station_layout.specs.declared.advice.Common.{Common}
use Rattle.station_layout.specs.declared.advice.Common.TheVariants as common

unfoldable pub same_place : Place → Place → Bool
same_place a b = (table_number a.table == table_number b.table) && (a.entry == b.entry)

unfoldable pub same_port_name : PortName → PortName → Bool
same_port_name p q = same_name p.element q.element && same_end p.end q.end

unfoldable pub joins : WrittenJoint → PortName → Bool
joins joint p = same_port_name joint.first p || same_port_name joint.second p

unfoldable pub reports : DetectorText → List ℕ → Bool
reports d section = list_any (λ one. same_name one section) d.sections

module _ (w : LayoutText) where
  -- ---- what an entry has

  unfoldable pub name_in : TableName → ℕ → Option (List ℕ)
  name_in named.Station n = Some w.station.name
  name_in named.Section n = slice_get w.sections n
  name_in named.Track n = option_map (λ one. one.name) (slice_get w.tracks n)
  name_in named.Point n = option_map (λ one. one.name) (slice_get w.points n)
  name_in named.Border n = slice_get w.borders n
  name_in named.Joint n = None
  name_in named.Signal n = option_map (λ one. one.name) (slice_get w.signals n)
  name_in named.Detector n = option_map (λ one. one.name) (slice_get w.detectors n)
  name_in named.Route n = option_map (λ one. one.name) (slice_get w.routes n)

  unfoldable pub id_in : TableName → ℕ → Option ℕ
  id_in named.Station n = Some w.station.id
  id_in named.Point n = option_map (λ one. one.id) (slice_get w.points n)
  id_in named.Signal n = option_map (λ one. one.id) (slice_get w.signals n)
  id_in named.Detector n = option_map (λ one. one.id) (slice_get w.detectors n)
  id_in _ n = None

  abbrev pub section_at : TableName → ℕ → List ℕ → Bool
  section_at named.Detector n section = some_and (λ d. reports d section) (slice_get w.detectors n)
  section_at _ n section = false

  abbrev pub joint_at : TableName → ℕ → PortName → Bool
  joint_at named.Joint n p = some_and (λ joint. joins joint p) (slice_get w.joints n)
  joint_at _ n p = false

  abbrev pub signal_at : TableName → ℕ → PortName → Bool
  signal_at named.Signal n p = some_and (λ signal. same_port_name signal.at p) (slice_get w.signals n)
  signal_at _ n p = false

  unfoldable pub has : TableName → ℕ → Common → Bool
  has table n (common.Name name) = some_and (λ own. same_name own name) (name_in table n)
  has table n (common.Id id) = some_and (λ own. own == id) (id_in table n)
  has table n (common.Section section) = section_at table n section
  has table n (common.Joint p) = joint_at table n p
  has table n (common.Signal p) = signal_at table n p

  -- ---- the first entry of a table that has it

  abbrev pub entries : TableName → ℕ
  entries named.Station = 1
  entries named.Section = length w.sections
  entries named.Track = length w.tracks
  entries named.Point = length w.points
  entries named.Border = length w.borders
  entries named.Joint = length w.joints
  entries named.Signal = length w.signals
  entries named.Detector = length w.detectors
  entries named.Route = length w.routes

  -- an entry by its place, counted from 0
  abbrev pub entry_in : TableName → ℕ → Place
  entry_in table n = record { table = table; entry = counted n }

  -- among so many after the first n
  abbrev pub first_behind : Common → TableName → ℕ → ℕ → Option Place
  first_behind what table n zero = None
  first_behind what table n (suc left) = if has table n what then Some (entry_in table n) else first_behind what table (n + 1) left

  unfoldable pub place_having : Common → TableName → Option Place
  place_having what table = first_behind what table 0 (entries table)

  -- ---- the first entry of all that has it

  abbrev pub first_having : Common → Option Place
  first_having what = first_of (place_having what) (named.Station ∷ named.Section ∷ named.Track ∷ named.Point ∷ named.Border ∷ named.Joint ∷ named.Signal ∷ named.Detector ∷ named.Route ∷ [])

  -- An entry has something that the first one which has it has too, if that is another one.
  abbrev pub shared_by : Place → Common → Place → Option EntryAdvice
  shared_by place what first = if same_place first place then None else Some (Shared place what first)

  unfoldable pub shared_with : Place → Common → Option EntryAdvice
  shared_with place what = option_and_then (shared_by place what) (first_having what)

  -- ---- a name, an identity or a section

  abbrev pub name_shared : Place → Option EntryAdvice
  name_shared place = option_and_then (λ name. shared_with place (common.Name name)) (name_in place.table (place.entry - 1))

  abbrev pub id_shared : Place → Option EntryAdvice
  id_shared place = option_and_then (λ id. shared_with place (common.Id id)) (id_in place.table (place.entry - 1))

  abbrev pub detector_shared : Place → Option EntryAdvice
  detector_shared place =
      option_and_then (λ d. first_of (λ section. shared_with place (common.Section section)) d.sections) (slice_get w.detectors (place.entry - 1))

  -- The advice where an entry has a name, an identity or a section that an earlier one has.
  abbrev pub double_told : Place → Option EntryAdvice
  double_told place = option_or (name_shared place) (option_or (id_shared place) (detector_shared place))

  -- ---- a port

  abbrev pub port_in : Place → TableName → Option EntryAdvice
  port_in place named.Joint =
      option_and_then (λ joint. option_or (shared_with place (common.Joint joint.first)) (shared_with place (common.Joint joint.second))) (slice_get w.joints (place.entry - 1))
  port_in place named.Signal = option_and_then (λ signal. shared_with place (common.Signal signal.at)) (slice_get w.signals (place.entry - 1))
  port_in place _ = None

  -- The advice where an entry stands at a port at which an earlier one stands.
  abbrev pub port_told : Place → Option EntryAdvice
  port_told place = port_in place place.table
