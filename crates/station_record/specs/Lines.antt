-- The lines that tell what goes over a network.
use Rattle.std.specs.Prelude.{ℕ, ◌/◌, ◌%◌, List, ◌++◌, codes, slice_get, Option, Some, None}
use Rattle.std.specs.Fmt.{decimal}
use Rattle.std.specs.List.{flat_map}
use Rattle.replay.specs.replay_lines.Names.{node_names}
use Rattle.replay.specs.layout.Entries.{Site}
use Rattle.replay.specs.simulator_event.Refused.{number_of}
use Rattle.replay.specs.simulator_event.layout.declared.ids.NodeId.{NodeId}
use Rattle.station_decode.specs.Datagrams.{datagram_text}
use Rattle.station_record.specs.Traffic.{OnWire}
use Rattle.station_record.specs.declared.fate.Fate.{Fate}
use Rattle.station_record.specs.declared.fate.Fate.TheVariants.{Sent, Delivered, Lost}

-- microseconds as milliseconds, with three digits after the point
abbrev pub time_text : ℕ → List ℕ
time_text time =
    decimal (time / 1000) ++ (codes "." ++ (decimal (time / 100 % 10) ++ (decimal (time / 10 % 10) ++ decimal (time % 10))))

-- a node by its name, and by `_` where there is no such node
abbrev pub name_or_none : Option (List ℕ) → List ℕ
name_or_none (Some name) = name
name_or_none None = codes "_"

abbrev pub node_text : Site → NodeId → List ℕ
node_text site node = name_or_none (slice_get (node_names site) node.0)

-- what becomes of a datagram; where that is refused, by the number by which an answer tells it
abbrev pub fate_text : Site → Fate → List ℕ
fate_text site (Sent sender receiver) = codes "sent by " ++ (node_text site sender ++ (codes " to " ++ node_text site receiver))
fate_text site (Delivered receiver None) = codes "delivered to " ++ node_text site receiver
fate_text site (Delivered receiver (Some why)) = codes "not delivered to " ++ (node_text site receiver ++ (codes ", no " ++ decimal (number_of why)))
fate_text site (Lost None) = codes "lost"
fate_text site (Lost (Some why)) = codes "not lost, no " ++ decimal (number_of why)

-- the time, what becomes of the datagram, and its words under the key and with the names of the layout
abbrev pub line_text : Site → OnWire → List ℕ
line_text site one =
    time_text one.time ++ (codes " " ++ (fate_text site one.fate ++ (codes ": " ++ (datagram_text (Some site) one.bytes ++ codes "\n"))))

abbrev pub lines_text : Site → List OnWire → List ℕ
lines_text site all = flat_map (line_text site) all
