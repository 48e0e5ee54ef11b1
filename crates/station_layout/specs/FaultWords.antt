-- What the faults mean whose place alone is told.
use Rattle.std.specs.Prelude.{ℕ, nat_le, List, [], ◌++◌, codes, Option, Some, None, if◌then◌else◌}
use Rattle.layout_text.specs.declared.fault.LayoutFault.{LayoutFault}
use Rattle.layout_text.specs.declared.fault.LayoutFault.TheVariants as layout
use Rattle.layout_text.specs.declared.fault.Place.{Place}
use Rattle.layout_text.specs.declared.fault.TableName.{TableName}
use Rattle.layout_text.specs.declared.fault.TableName.TheVariants as named
use Rattle.control_table.specs.declared.fault.FaultyRoute.{FaultyRoute}
use Rattle.control_table.specs.declared.fault.TableFault.{TableFault}
use Rattle.control_table.specs.declared.fault.TableFault.TheVariants as table
use Rattle.control_table.specs.Messages.{route_text}
use Rattle.station_layout.specs.EntryWords.{place_words}

-- how many entries a station may have
abbrev pub most : TableName → ℕ
most named.Section = 64
most named.Track = 128
most named.Point = 32
most named.Border = 16
most named.Signal = 32
most named.Detector = 16
most named.Route = 64
most _ = 0

-- why an entry is too large
abbrev pub size_words : TableName → List ℕ
size_words named.Detector = codes "reports no section, or more than 16"
size_words named.Route = codes "has a path of more than 64 elements"
size_words _ = codes "is too large"

-- that an entry is one too many
abbrev pub number_words : TableName → List ℕ
number_words named.Section = codes "is one too many: there may be 64"
number_words named.Track = codes "is one too many: there may be 128"
number_words named.Point = codes "is one too many: there may be 32"
number_words named.Border = codes "is one too many: there may be 16"
number_words named.Signal = codes "is one too many: there may be 32"
number_words named.Detector = codes "is one too many: there may be 16"
number_words named.Route = codes "is one too many: there may be 64"
number_words _ = codes "is one too many"

-- which limit an entry goes beyond
abbrev pub limit_words : Place → List ℕ
limit_words place = if nat_le place.entry (most place.table) then size_words place.table else number_words place.table

-- the words for a fault of a layout
unfoldable pub layout_words : LayoutFault → List ℕ
layout_words layout.Toml = codes "the text is no TOML"
layout_words (layout.MissingKey place) = codes "a key is missing at " ++ place_words place
layout_words (layout.WrongKind place) = codes "a value is of another kind or form at " ++ place_words place
layout_words (layout.UnknownName place) = place_words place ++ codes " names something that isn't there"
layout_words (layout.DoubleName place) = place_words place ++ codes " reports a section twice"
layout_words (layout.DoubleJoint place) = place_words place ++ codes " joins a port with itself"
layout_words (layout.Limit place) = place_words place ++ (codes " " ++ limit_words place)
layout_words layout.OutOfMemory = codes "memory is lacking"

-- the route at which a fault of a table is told
abbrev pub route_at_fault : TableFault → Option FaultyRoute
route_at_fault (table.PathBroken at) = Some at
route_at_fault (table.PathRepeats at) = Some at
route_at_fault (table.PointMissing at) = Some at
route_at_fault (table.PointWrong at) = Some at
route_at_fault (table.FlankMissing at) = Some at
route_at_fault (table.FlankOpen at) = Some at
route_at_fault (table.FlankContradicts at) = Some at
route_at_fault (table.SignalPlace at) = Some at
route_at_fault (table.NotSymmetric at) = Some at
route_at_fault table.OutOfMemory = None

-- what a fault of a table says of its route
unfoldable pub route_words : TableFault → List ℕ
route_words (table.PathBroken at) = codes "has a path that breaks: a port in it isn't joined to a port of the next element, or an element is left where it was entered or from leg to leg"
route_words (table.PathRepeats at) = codes "has an element twice on its path, or comes back to a section that it left"
route_words (table.PointMissing at) = codes "has a point on its path that isn't written under its `points`"
route_words (table.PointWrong at) = codes "writes a point at a side that it doesn't require, or under the wrong one of `points` and `flank`"
route_words (table.FlankMissing at) = codes "leaves a leg unused that is joined to a leg of a point that its `flank` doesn't have"
route_words (table.FlankOpen at) = codes "leaves a leg unused that is open: no signal stands at the port that is joined to it"
route_words (table.FlankContradicts at) = codes "requires a point at both sides"
route_words (table.SignalPlace at) = codes "has an exit that isn't where its path ends, or is its entry, or has another signal in the way"
route_words (table.NotSymmetric at) = codes "has a route under `extra` that doesn't have it there, or itself"
route_words table.OutOfMemory = []

abbrev pub words_at : Option FaultyRoute → List ℕ → List ℕ
words_at None why = codes "memory is lacking"
words_at (Some route) why = route_text route ++ (codes " " ++ why)

-- the words for a fault of a table
unfoldable pub table_words : TableFault → List ℕ
table_words f = words_at (route_at_fault f) (route_words f)
