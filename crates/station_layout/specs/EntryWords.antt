-- What is told of an entry: where it stands, what it has to be, and what is wrong with it.
use Rattle.std.specs.Prelude.{ℕ, ◌==◌, List, ◌++◌, codes, Option, Some, None, if◌then◌else◌}
use Rattle.std.specs.Fmt.{decimal}
use Rattle.layout_text.specs.declared.fault.Place.{Place}
use Rattle.layout_text.specs.declared.fault.TableName.{TableName}
use Rattle.layout_text.specs.declared.fault.TableName.TheVariants as named
use Rattle.layout_text.specs.Messages.{table_text}
use Rattle.station_layout.specs.FieldKeys.{form_words, item_key, key_text}
use Rattle.station_layout.specs.PortWords.{port_words}
use Rattle.station_layout.specs.declared.advice.Common.{Common}
use Rattle.station_layout.specs.declared.advice.Common.TheVariants as common
use Rattle.station_layout.specs.declared.advice.Missed.{Missed}
use Rattle.station_layout.specs.declared.advice.Missed.TheVariants as missed
use Rattle.station_layout.specs.declared.advice.Spot.{Spot}
use Rattle.station_layout.specs.declared.advice.Spot.TheVariants.{Entry, Field, Item}
use Rattle.station_layout.specs.declared.field_key.FieldKey.{FieldKey}
use Rattle.station_layout.specs.declared.field_key.FieldKey.TheVariants as key

-- an entry of a layout; the station is a table of its own
abbrev pub entry_words : TableName → ℕ → List ℕ
entry_words named.Station n = codes "the table `" ++ (table_text named.Station ++ codes "`")
entry_words table n = codes "entry " ++ (decimal n ++ (codes " of `" ++ (table_text table ++ codes "`")))

-- an entry of a layout, or the key of its entries
unfoldable pub place_words : Place → List ℕ
place_words place = if place.entry == 0 then codes "the key `" ++ (table_text place.table ++ codes "`") else entry_words place.table place.entry

-- what an entry has to be
abbrev pub wanted_words : TableName → List ℕ
wanted_words named.Station = codes "a table with `name`, `id` and, where it is wanted, `key`"
wanted_words named.Section = form_words key.Name
wanted_words named.Track = codes "a table with `name` and `section`"
wanted_words named.Point = codes "a table with `name`, `id` and `section`"
wanted_words named.Border = form_words key.Name
wanted_words named.Joint = codes "an array of two ports: each a name, a dot, and `a`, `b`, `tip`, `left`, `right` or `end`"
wanted_words named.Signal = codes "a table with `name`, `id` and `at`, a port"
wanted_words named.Detector = codes "a table with `name`, `id` and `sections`, an array of names"
wanted_words named.Route = codes "a table with `name`, `entry`, `exit`, `path`, an array of ports, and `points`; where they are wanted, with `flank`, `approach`, `extra` and `aspect`"

-- what has to stand in a table: an entry, or under its key the array of all
abbrev pub form_in : TableName → ℕ → List ℕ
form_in named.Station n = wanted_words named.Station
form_in table n = if n == 0 then codes "an array" else wanted_words table

unfoldable pub entry_form : Place → List ℕ
entry_form place = form_in place.table place.entry

-- what has to stand as an item of an array under a key
abbrev pub item_form : FieldKey → Option FieldKey → List ℕ
item_form key None = form_words key
item_form key (Some one) = form_words one

-- what has to stand somewhere
unfoldable pub spot_form : Spot → List ℕ
spot_form (Entry place) = entry_form place
spot_form (Field place key) = form_words key
spot_form (Item place key item) = item_form key (item_key key)

-- an entry, what stands under a key of it, or an item of the array there
unfoldable pub spot_words : Spot → List ℕ
spot_words (Entry place) = place_words place
spot_words (Field place key) = codes "`" ++ (key_text key ++ (codes "` of " ++ place_words place))
spot_words (Item place key item) = codes "item " ++ (decimal item ++ (codes " of `" ++ (key_text key ++ (codes "` of " ++ place_words place))))

-- what two entries have
unfoldable pub common_words : Common → List ℕ
common_words (common.Name name) = codes "has the name " ++ (name ++ codes ", as")
common_words (common.Id id) = codes "has the id " ++ (decimal id ++ codes ", as")
common_words (common.Section section) = codes "reports the section " ++ (section ++ codes ", as")
common_words (common.Joint port) = codes "joins " ++ (port_words port ++ codes ", as")
common_words (common.Signal port) = codes "stands at " ++ (port_words port ++ codes ", as")

-- what an entry names, and what is wanted
unfoldable pub missed_words : Missed → List ℕ
missed_words (missed.Section name) = codes "names " ++ (name ++ codes ", where a section is wanted")
missed_words (missed.Port port) = codes "names " ++ (port_words port ++ codes ", where a port of a track, a point or a border is wanted")
missed_words (missed.Point name) = codes "names " ++ (name ++ codes ", where a point is wanted")
missed_words (missed.Signal name) = codes "names " ++ (name ++ codes ", where a signal is wanted")
missed_words (missed.Exit name) = codes "names " ++ (name ++ codes ", where a signal or a border is wanted")
missed_words (missed.Route name) = codes "names " ++ (name ++ codes ", where a route is wanted")
missed_words (missed.Unreported name) = codes "is " ++ (name ++ codes ", which no detector reports")
