-- The lines of datagrams, one after the other.
use Rattle.std.specs.Prelude.{ℕ, List, [], Option, Some, None}
use Rattle.replay.specs.layout.Entries.{Site}
use Rattle.replay.specs.rasta_core.Links.{OnLink}
use Rattle.station_record.specs.Lines.{line_text}
use Rattle.station_record.specs.Traffic.{OnWire, sent_on}

-- the line of a datagram, if there is one
abbrev pub line_if : Site → Option OnWire → List ℕ
line_if site None = []
line_if site (Some one) = line_text site one

-- the line of the datagram at a place, if one was sent there
abbrev pub line_at : Site → Option OnLink → List ℕ
line_at site None = []
line_at site (Some one) = line_text site (sent_on one)
