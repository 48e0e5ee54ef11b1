-- What a node's record comes to as a capture.
use Rattle.std.specs.Prelude.{◌≡◌, ◌<◌, ◌*◌, ◌-◌, ◌^◌, ℕ, min, List, [], ◌∷◌, ◌++◌, length, map, slice_get, Option, Some, None, Ok}
use Rattle.std.specs.List.{flat_map}
use Rattle.capture_file.specs.Blocks.{head, packet_block}
use Rattle.capture_file.specs.Captures.{IsCapture}
use Rattle.capture_file.specs.Journeys.{Sent as Captured}
use Rattle.capture_file.specs.declared.fault.CaptureFault.TheVariants.{TooLong, Exists, CannotWrite}
use Rattle.capture_file.specs.declared.journey.TheConstants.{MOST_BYTES}
use Rattle.capture_file.specs.declared.journey.Endpoint.{Endpoint}
use Rattle.capture_file.specs.declared.journey.Journey.{Journey}
use Rattle.control_table.specs.layout.Entries.{Site}
use Rattle.station_check.specs.Report.{IsSound}
use Rattle.station_check.specs.node_addresses.declared.network.Network.{Network}
use Rattle.station_check.specs.node_addresses.declared.network.Network.TheVariants.{First}
use Rattle.station_check.specs.declared.failure.Failure.{Failure}
use Rattle.station_check.specs.declared.failure.Failure.TheVariants.{Capture}
use Rattle.node_record.specs.DecodedRecord.{ExplainsRecord}
use Rattle.node_record.specs.NodeEnds.{Ends, end_in}
use Rattle.node_record.specs.NodeLines.{why_text}
use Rattle.node_record.specs.NodeTraffic.{Passed, traffic}
use Rattle.node_record.specs.RecordLines.{Line}
use Rattle.node_record.specs.Records.{record_said}
use Rattle.node_record.specs.declared.passage.Way.{Way}
use Rattle.node_record.specs.declared.passage.Way.TheVariants.{Sent, Came}
use Rattle.node_record.specs.declared.record_head.Head.{Head as RecordHead}

-- ---- datagrams

-- a reading in microseconds, as far as 64 bits go
abbrev pub stamp : ℕ → ℕ
stamp reading = min (reading * 1000) (2 ^ 64 - 1)

-- an address that is no node's: the record doesn't tell it
abbrev pub no_end : Endpoint
no_end = record { address = 0 ∷ 0 ∷ 0 ∷ 0 ∷ []; port = 0 }

abbrev pub sender_end : Ends → Network → Option ℕ → Endpoint
sender_end given over None = no_end
sender_end given over (Some from) = end_in given over from

-- What came goes from the other's end to the node's own, in the network over which it came. What the node sent goes from its end to the
-- other's: with two networks it went over both, and stands once, in the first.
abbrev pub sender_of : Ends → ℕ → Way → Endpoint
sender_of given node (Sent to) = end_in given First node
sender_of given node (Came from over reception) = sender_end given over from

abbrev pub receiver_of : Ends → ℕ → Way → Endpoint
receiver_of given node (Sent to) = end_in given First to
receiver_of given node (Came from over reception) = end_in given over node

abbrev pub journey : Ends → ℕ → Passed → Journey
journey given node one = record {
  time = stamp one.reading;
  sender = sender_of given node one.way;
  receiver = receiver_of given node one.way;
}

-- why it wasn't delivered, where it came and wasn't
abbrev pub comment : Way → List ℕ
comment (Sent to) = []
comment (Came from over reception) = why_text reception

abbrev pub captured : Ends → ℕ → Passed → Captured
captured given node one = record { journey = journey given node one; payload = one.bytes; comment = comment one.way }

-- Bytes are a capture of these datagrams, in their order, and they are exactly these.
pub record IsCaptureOf (given : Ends) (node : ℕ) (all : List Passed) (bytes : List ℕ) : Type 0 where
  pub is : IsCapture (map (captured given node) all) bytes
  pub exact : bytes ≡ head ++ flat_map (λ one. packet_block (captured given node one)) all

-- one of these has more bytes than a capture takes
pub record HasTooLong (all : List Passed) : Type 0 where
  pub place : ℕ
  pub one : Passed
  pub there : slice_get all place ≡ Some one
  pub long : MOST_BYTES < length one.bytes

-- ---- records

-- The layout is sound, no line of the record is faulty, and bytes are a capture of what came to the node and what it sent.
pub record IsRecordCapture (layout name text : List ℕ) (given : Ends) (file : List ℕ) : Type 0 where
  pub site : Site
  pub sound : IsSound layout site
  pub head : RecordHead
  pub lines : List Line
  pub says : record_said site name text ≡ Ok (head, lines)
  pub is : IsCaptureOf given head.node (traffic head.node 0 lines) file

-- so long is a datagram of a record
pub record IsTooLong (layout name text : List ℕ) : Type 0 where
  pub site : Site
  pub sound : IsSound layout site
  pub head : RecordHead
  pub lines : List Line
  pub says : record_said site name text ≡ Ok (head, lines)
  pub has : HasTooLong (traffic head.node 0 lines)

-- a record has a capture
pub record HasCapture (layout name text : List ℕ) (given : Ends) : Type 0 where
  pub file : List ℕ
  pub is : IsRecordCapture layout name text given file

-- ---- what fails

-- Why there is no capture file: as a record isn't told, or a datagram is too long; or there is a capture, but a file of that name
-- too, or the system doesn't write it.
abbrev pub Explains : List ℕ → List ℕ → List ℕ → Ends → Failure → Type 0
Explains layout name text given (Capture TooLong) = IsTooLong layout name text
Explains layout name text given (Capture Exists) = HasCapture layout name text given
Explains layout name text given (Capture CannotWrite) = HasCapture layout name text given
Explains layout name text given why = ExplainsRecord layout name text why
