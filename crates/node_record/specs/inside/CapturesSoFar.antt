-- A capture as it grows, and why there is none.
use Rattle.std.specs.Prelude.{◌≡◌, ◌<◌, ℕ, List, [], ◌∷◌, ◌++◌, length}
use Rattle.capture_file.specs.Blocks.{packet_block}
use Rattle.capture_file.specs.Captures.{IsCapture}
use Rattle.capture_file.specs.Journeys.{Sent as Captured}
use Rattle.capture_file.specs.declared.fault.CaptureFault.TheVariants.{TooLong}
use Rattle.capture_file.specs.declared.journey.TheConstants.{MOST_BYTES}
use Rattle.station_check.specs.declared.failure.Failure.{Failure}
use Rattle.station_check.specs.declared.failure.Failure.TheVariants.{Capture, OutOfMemory}
use Rattle.node_record.specs.CapturedRecord.{HasTooLong, captured}
use Rattle.node_record.specs.NodeEnds.{Ends}
use Rattle.node_record.specs.NodeTraffic.{Passed}

-- a datagram was added to a capture
pub record Adds (given : Ends) (node : ℕ) (one : Passed) (old new : List ℕ) : Type 0 where
  pub exact : new ≡ old ++ packet_block (captured given node one)
  pub is : (all : List Captured) → IsCapture all old → IsCapture (all ++ captured given node one ∷ []) new

-- why a datagram can't be added
abbrev pub HasTooLongOf : Passed → Failure → Type 0
HasTooLongOf one OutOfMemory = Unit {0}
HasTooLongOf one (Capture TooLong) = MOST_BYTES < length one.bytes
HasTooLongOf one why = ⊥

-- why some have no capture
abbrev pub IsNoCapture : List Passed → Failure → Type 0
IsNoCapture all OutOfMemory = Unit {0}
IsNoCapture all (Capture TooLong) = HasTooLong all
IsNoCapture all why = ⊥
