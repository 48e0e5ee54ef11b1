-- Which name of an entry isn't that of an entry of the kind that is wanted: the first one in the order in which names are resolved.
use Rattle.std.specs.Prelude.{ℕ, ◌-◌, ◌||◌, Bool, false, List, [], ◌∷◌, Option, Some, None, is_some, slice_get, option_and_then, if◌then◌else◌}
use Rattle.std.specs.Option.{option_map, option_or}
use Rattle.layout_text.specs.Written.{LayoutText, RouteText}
use Rattle.layout_text.specs.declared.entries.End.{End}
use Rattle.layout_text.specs.declared.entries.End.TheVariants as end
use Rattle.layout_text.specs.declared.entries.WrittenJoint.{WrittenJoint}
use Rattle.layout_text.specs.declared.fault.Place.{Place}
use Rattle.layout_text.specs.declared.fault.TableName.{TableName}
use Rattle.layout_text.specs.declared.fault.TableName.TheVariants as named
use Rattle.station_layout.specs.FieldKeys.{item_key}
use Rattle.station_layout.specs.Places.{counted}
use Rattle.station_layout.specs.SharedAdvice.{place_having}
use Rattle.station_layout.specs.declared.advice.EntryAdvice.{EntryAdvice}
use Rattle.station_layout.specs.declared.advice.EntryAdvice.TheVariants.{Unknown}
use Rattle.station_layout.specs.declared.advice.Common.TheVariants as common
use Rattle.station_layout.specs.declared.advice.Missed.{Missed}
use Rattle.station_layout.specs.declared.advice.Missed.TheVariants as missing
use Rattle.station_layout.specs.declared.advice.Spot.{Spot}
use Rattle.station_layout.specs.declared.advice.Spot.TheVariants.{Entry, Item}
use Rattle.station_layout.specs.declared.field_key.FieldKey.{FieldKey}
use Rattle.station_layout.specs.declared.field_key.FieldKey.TheVariants as key

-- a track has the ports a and b, a point tip, left and right, a border end
abbrev pub table_of : End → TableName
table_of end.A = named.Track
table_of end.B = named.Track
table_of end.Tip = named.Point
table_of end.Left = named.Point
table_of end.Right = named.Point
table_of end.End = named.Border

-- where an item under a key stands: a table, as that of points, has no items
abbrev pub spot_by : Place → FieldKey → ℕ → Option FieldKey → Spot
spot_by place key n None = Entry place
spot_by place key n (Some one) = Item place key n

abbrev pub spot_of : Place → FieldKey → ℕ → Spot
spot_of place key n = spot_by place key n (item_key key)

-- what a name under a key has to be: under `extra` that of a route
abbrev pub name_missed : FieldKey → List ℕ → Missed
name_missed key.Extra name = missing.Route name
name_missed _ name = missing.Section name

module _ (w : LayoutText) where
  -- ---- what is named is there, and of the kind that is wanted

  abbrev pub is_entry : TableName → List ℕ → Bool
  is_entry table name = is_some (place_having w (common.Name name) table)

  unfoldable pub is_there : Missed → Bool
  is_there (missing.Section name) = is_entry named.Section name
  is_there (missing.Port port) = is_entry (table_of port.end) port.element
  is_there (missing.Point name) = is_entry named.Point name
  is_there (missing.Signal name) = is_entry named.Signal name
  is_there (missing.Exit name) = is_entry named.Signal name || is_entry named.Border name
  is_there (missing.Route name) = is_entry named.Route name
  is_there (missing.Unreported name) = false

  unfoldable pub missed : Spot → Missed → Option EntryAdvice
  missed at what = if is_there what then None else Some (Unknown at what)

  -- the first item under a key that names what isn't there, counted from 1 after so many others
  abbrev pub first_missed : {A : Type 0} → Place → FieldKey → (A → Missed) → ℕ → List A → Option EntryAdvice
  first_missed place key name_of n [] = None
  first_missed place key name_of n (x ∷ xs) = option_or (missed (spot_of place key (counted n)) (name_of x)) (first_missed place key name_of (counted n) xs)

  -- ---- the names of an entry

  unfoldable pub points_missed : Place → RouteText → Option EntryAdvice
  points_missed place r =
      option_or (first_missed place key.Points (λ point. missing.Point point.0) 0 r.points) (first_missed place key.Flank (λ point. missing.Point point.0) 0 r.flank)

  unfoldable pub route_missed : Place → RouteText → Option EntryAdvice
  route_missed place r =
      option_or (missed (Entry place) (missing.Signal r.entry))
      (option_or (missed (Entry place) (missing.Exit r.exit))
      (option_or (first_missed place key.Path (λ port. missing.Port port) 0 r.path)
      (option_or (points_missed place r)
      (option_or (first_missed place key.Approach (λ name. missing.Section name) 0 r.approach)
      (first_missed place key.Extra (λ name. missing.Route name) 0 r.extra)))))

  abbrev pub joint_missed : Place → WrittenJoint → Option EntryAdvice
  joint_missed place joint = option_or (missed (Entry place) (missing.Port joint.first)) (missed (Entry place) (missing.Port joint.second))

  abbrev pub detector_missed : Place → ℕ → Option EntryAdvice
  detector_missed place n = option_and_then (λ d. first_missed place key.Sections (λ name. missing.Section name) 0 d.sections) (slice_get w.detectors n)

  -- what an entry names that names one thing; of a section its own name, since no detection controller reports it
  abbrev pub named_by : TableName → ℕ → Option Missed
  named_by named.Section n = option_map (λ name. missing.Unreported name) (slice_get w.sections n)
  named_by named.Track n = option_map (λ track. missing.Section track.section) (slice_get w.tracks n)
  named_by named.Point n = option_map (λ point. missing.Section point.section) (slice_get w.points n)
  named_by named.Signal n = option_map (λ signal. missing.Port signal.at) (slice_get w.signals n)
  named_by _ n = None

  abbrev pub unknown_in : Place → TableName → ℕ → Option EntryAdvice
  unknown_in place named.Joint n = option_and_then (joint_missed place) (slice_get w.joints n)
  unknown_in place named.Detector n = detector_missed place n
  unknown_in place named.Route n = option_and_then (route_missed place) (slice_get w.routes n)
  unknown_in place table n = option_and_then (missed (Entry place)) (named_by table n)

  -- The advice where an entry names something that isn't there, or is of another kind.
  abbrev pub unknown_told : Place → Option EntryAdvice
  unknown_told place = unknown_in place place.table (place.entry - 1)
