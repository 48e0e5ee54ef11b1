-- What a recorded session comes to as a capture.
use Rattle.std.specs.Prelude.{◌≡◌, ◌<◌, ℕ, Bool, true, false, List, [], ◌∷◌, ◌++◌, length, map, codes, slice_get, Option, Some, Ok}
use Rattle.std.specs.Io.KnownBytes.{Appends}
use Rattle.std.specs.List.{flat_map}
use Rattle.capture_file.specs.Blocks.{head, packet_block}
use Rattle.capture_file.specs.Captures.{IsCapture}
use Rattle.capture_file.specs.NodeEnds.{end_of}
use Rattle.capture_file.specs.declared.fault.CaptureFault.TheVariants.{TooLong}
use Rattle.capture_file.specs.Journeys.{Sent}
use Rattle.capture_file.specs.declared.journey.TheConstants.{MOST_BYTES}
use Rattle.capture_file.specs.declared.journey.Endpoint.{Endpoint}
use Rattle.capture_file.specs.declared.journey.Journey.{Journey}
use Rattle.replay.specs.ReplayedSession.{Explains as ExplainsStation}
use Rattle.replay.specs.World.{IsFirst, Played, receiver}
use Rattle.replay.specs.layout.Entries.{Site}
use Rattle.replay.specs.rasta_core.Links.{OnLink}
use Rattle.replay.specs.replay_lines.Session.{session}
use Rattle.replay.specs.replay_lines.declared.session.Entry.{Entry}
use Rattle.replay.specs.station_check.Report.{IsSound}
use Rattle.replay.specs.station_check.declared.failure.Failure.{Failure}
use Rattle.replay.specs.station_check.declared.failure.Failure.TheVariants.{Capture}
use Rattle.station_record.specs.Traffic.{left_by, sender}

-- ---- datagrams

-- when a datagram was sent, from where and to where
abbrev pub journey : List Endpoint → OnLink → Journey
journey given one = record {
  time = one.datagram.at;
  sender = end_of given (sender one.datagram.sender one.link).0;
  receiver = end_of given (receiver one.datagram.sender one.link).0;
}

-- what is remarked of it
abbrev pub comment : Bool → List ℕ
comment true = codes "lost"
comment false = []

abbrev pub captured : List Endpoint → OnLink → Sent
captured given one = record { journey = journey given one; payload = one.datagram.bytes; comment = comment one.datagram.is_lost }

-- Bytes are a capture of the datagrams that were sent, in their order, and they are exactly these.
pub record IsCaptureOf (given : List Endpoint) (sent : List OnLink) (bytes : List ℕ) : Type 0 where
  pub is : IsCapture (map (captured given) sent) bytes
  pub exact : bytes ≡ head ++ flat_map (λ one. packet_block (captured given one)) sent

-- a datagram among these has more bytes than a capture takes
pub record HasTooLong (sent : List OnLink) : Type 0 where
  pub place : ℕ
  pub one : OnLink
  pub there : slice_get sent place ≡ Some one
  pub long : MOST_BYTES < length one.datagram.bytes

-- ---- sessions

-- Bytes are a capture of all that is sent on the network of a first world of a site, as a session is applied to it.
pub record IsFileOf (site : Site) (entries : List Entry) (given : List Endpoint) (file : List ℕ) : Type 0 where
  pub first : Played
  pub begins : IsFirst site first
  pub is : IsCaptureOf given (left_by first entries).run.sent file

-- a datagram that is sent so has more bytes than a capture takes
pub record SendsTooLong (site : Site) (entries : List Entry) : Type 0 where
  pub first : Played
  pub begins : IsFirst site first
  pub has : HasTooLong (left_by first entries).run.sent

-- The layout is sound, no line of the record is faulty, and bytes are a capture of what its session sends.
pub record IsSessionCapture (layout text : List ℕ) (given : List Endpoint) (file : List ℕ) : Type 0 where
  pub site : Site
  pub sound : IsSound layout site
  pub entries : List Entry
  pub says : session site text ≡ Ok entries
  pub is : IsFileOf site entries given file

-- so long is a datagram that the session of a record sends
pub record IsTooLong (layout text : List ℕ) : Type 0 where
  pub site : Site
  pub sound : IsSound layout site
  pub entries : List Entry
  pub says : session site text ≡ Ok entries
  pub sends : SendsTooLong site entries

-- such a capture was written
pub record IsCaptured (layout text : List ℕ) (given : List Endpoint) (before now : Option (List ℕ)) : Type 0 where
  pub file : List ℕ
  pub is : IsSessionCapture layout text given file
  pub appended : Appends before now file

-- ---- what fails

-- Why no capture is written: as a session isn't replayed, or a datagram is too long.
abbrev pub Explains : List ℕ → List ℕ → Failure → Type 0
Explains layout text (Capture TooLong) = IsTooLong layout text
Explains layout text why = ExplainsStation layout text why
