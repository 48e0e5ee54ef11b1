-- How many entries a station may have. The fault names the first entry too many.
use Rattle.std.specs.Prelude.{ℕ, ◌+◌, ◌&&◌, nat_le, List, length, Ok, Err, if◌then◌else◌}
use Rattle.layout_text.specs.declared.fault.LayoutFault.TheVariants.{Limit}
use Rattle.layout_text.specs.declared.fault.Place.{Place}
use Rattle.layout_text.specs.declared.fault.TableName.{TableName}
use Rattle.layout_text.specs.declared.fault.TableName.TheVariants as named
use Rattle.layout_text.specs.FirstFault.{Read, ◌>>=◌, each_of}
use Rattle.layout_text.specs.Written.{DetectorText, RouteText, LayoutText}

abbrev pub at_most : ℕ → TableName → ℕ → Read (Unit {0})
at_most limit table entries = if nat_le entries limit then Ok tt else Err (Limit (record { table = table; entry = limit + 1 }))

-- 16 detection controllers of 1 to 16 sections
abbrev pub detector_limit : Place → DetectorText → Read (Unit {0})
detector_limit place d =
    if nat_le place.entry 16 && nat_le 1 (length d.sections) && nat_le (length d.sections) 16
    then Ok tt else Err (Limit place)

-- 64 routes with paths of at most 64 elements
abbrev pub route_limit : Place → RouteText → Read (Unit {0})
route_limit place r = if nat_le place.entry 64 && nat_le (length r.path) 64 then Ok tt else Err (Limit place)

-- a test of every entry of a table
abbrev pub all_within : {A : Type 0} → (Place → A → Read (Unit {0})) → TableName → List A → Read (Unit {0})
all_within test table xs = each_of test table 1 xs >>= λ _. Ok tt

-- the limits, table after table; joints have none
unfoldable pub limits_of : LayoutText → Read (Unit {0})
limits_of text = do
  sections ← at_most 64 named.Section (length text.sections)
  tracks ← at_most 128 named.Track (length text.tracks)
  points ← at_most 32 named.Point (length text.points)
  borders ← at_most 16 named.Border (length text.borders)
  signals ← at_most 32 named.Signal (length text.signals)
  detectors ← all_within detector_limit named.Detector text.detectors
  all_within route_limit named.Route text.routes
