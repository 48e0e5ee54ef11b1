-- A capture as it grows, and why there is none.
use Rattle.std.specs.Prelude.{◌≡◌, ℕ, List, [], ◌∷◌, ◌++◌, Option, Some, None}
use Rattle.capture_file.specs.Blocks.{packet_block}
use Rattle.capture_file.specs.Captures.{IsCapture}
use Rattle.capture_file.specs.Journeys.{Sent}
use Rattle.capture_file.specs.declared.fault.CaptureFault.TheVariants.{TooLong}
use Rattle.capture_file.specs.declared.journey.Endpoint.{Endpoint}
use Rattle.replay.specs.replay_lines.declared.session.Entry.{Entry}
use Rattle.replay.specs.layout.Entries.{Site}
use Rattle.replay.specs.rasta_core.Links.{OnLink}
use Rattle.replay.specs.station_check.declared.failure.Failure.{Failure}
use Rattle.replay.specs.station_check.declared.failure.Failure.TheVariants.{Capture, OutOfMemory}
use Rattle.station_record.specs.CapturedSession.{HasTooLong, SendsTooLong, captured}

-- a datagram was added to a capture
pub record Adds (given : List Endpoint) (one : OnLink) (old new : List ℕ) : Type 0 where
  pub exact : new ≡ old ++ packet_block (captured given one)
  pub is : (sent : List Sent) → IsCapture sent old → IsCapture (sent ++ captured given one ∷ []) new

-- so it was, if there is one
abbrev pub Captures : List Endpoint → Option OnLink → List ℕ → List ℕ → Type 0
Captures given None old new = new ≡ old
Captures given (Some one) old new = Adds given one old new

abbrev pub IsNoCapture : List OnLink → Failure → Type 0
IsNoCapture sent OutOfMemory = Unit {0}
IsNoCapture sent (Capture TooLong) = HasTooLong sent
IsNoCapture sent why = ⊥

-- why a session has none
abbrev pub IsNoFile : Site → List Entry → Failure → Type 0
IsNoFile site entries OutOfMemory = Unit {0}
IsNoFile site entries (Capture TooLong) = SendsTooLong site entries
IsNoFile site entries why = ⊥
