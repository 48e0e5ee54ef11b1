-- The lines that tell what goes over the network by a node's record, in the words of a session's.
use Rattle.std.specs.Prelude.{ℕ, List, [], ◌++◌, codes, slice_get, Option, Some, None}
use Rattle.std.specs.Fmt.{decimal}
use Rattle.std.specs.List.{flat_map}
use Rattle.control_table.specs.layout.Entries.{Site}
use Rattle.replay_lines.specs.Names.{node_names}
use Rattle.station_check.specs.node_addresses.declared.network.Network.{Network}
use Rattle.station_check.specs.node_addresses.declared.network.Network.TheVariants.{Alone, First, Second}
use Rattle.station_decode.specs.Datagrams.{datagram_text}
use Rattle.node_record.specs.NodeTraffic.{Passed}
use Rattle.node_record.specs.declared.passage.Reception.{Reception}
use Rattle.node_record.specs.declared.passage.Reception.TheVariants.{Delivered, FromNoPartner, ThrownAway, Unread}
use Rattle.node_record.specs.declared.passage.Way.{Way}
use Rattle.node_record.specs.declared.passage.Way.TheVariants.{Sent, Came}

-- a node by its name, and by `_` where there is no such node
abbrev pub name_or_none : Option (List ℕ) → List ℕ
name_or_none (Some name) = name
name_or_none None = codes "_"

abbrev pub node_text : Site → ℕ → List ℕ
node_text site node = name_or_none (slice_get (node_names site) node)

-- why it wasn't delivered
abbrev pub why_text : Reception → List ℕ
why_text Delivered = []
why_text FromNoPartner = codes "from no partner"
why_text ThrownAway = codes "thrown away"
why_text Unread = codes "not read"

-- over which of two networks it came
abbrev pub over_text : Network → List ℕ
over_text Alone = []
over_text First = codes " over 1"
over_text Second = codes " over 2"

-- to whom a datagram was sent, and what became of one that came
abbrev pub sent_text : List ℕ → List ℕ → List ℕ
sent_text own to = codes "sent by " ++ (own ++ (codes " to " ++ to))

abbrev pub came_text : List ℕ → Network → Reception → List ℕ
came_text own over Delivered = codes "delivered to " ++ (own ++ over_text over)
came_text own over other = codes "not delivered to " ++ (own ++ (over_text over ++ (codes ", " ++ why_text other)))

-- what became of a datagram in the record of this node
abbrev pub way_text : Site → ℕ → Way → List ℕ
way_text site node (Sent to) = sent_text (node_text site node) (node_text site to)
way_text site node (Came from over reception) = came_text (node_text site node) over reception

-- the reading, in milliseconds; what became of the datagram; and its words under the key and with the names of the layout
abbrev pub line_text : Site → ℕ → Passed → List ℕ
line_text site node one =
    decimal one.reading ++ (codes ".000 " ++ (way_text site node one.way ++ (codes ": " ++ (datagram_text (Some site) one.bytes ++ codes "\n"))))

abbrev pub lines_text : Site → ℕ → List Passed → List ℕ
lines_text site node all = flat_map (line_text site node) all
