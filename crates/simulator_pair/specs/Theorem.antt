-- What is true of a pair after every list of events.
use Rattle.std.specs.Prelude.{◌≡◌, ◌≢◌, ℕ, ◌+◌, ◌<◌, true, false, List, [], Some, None}
use Rattle.md4.specs.declared.message.TheConstants.{STANDARD}
use Rattle.rasta_core.specs.Ends.{Sent, Receives, is_taken, reading_of}
use Rattle.rasta_core.specs.Run.{Ends, end_of, called}
use Rattle.rasta_core.specs.identity.Role.{Role}
use Rattle.rasta_core.specs.Safe.{IsIdle}
use Rattle.rasta_core.specs.Names.{Names}
use Rattle.rasta_core.specs.PdusHandedOut.{entered}
use Rattle.rasta_core.specs.Sentences.{IsIn, IsOpening, IsOut, freshness, receipt_at}
use Rattle.simulator_pair.specs.Events.{copy_of, refusal_of_delivery}
use Rattle.simulator_pair.specs.declared.event.PairEvent.{PairEvent}
use Rattle.simulator_pair.specs.declared.event.PairEvent.TheVariants as event

-- the network of a pair: its key, and the identities of its ends
abbrev pub names : Names
names = record { key = record { 0 = STANDARD }; client = 1; server = 2 }

-- Bytes don't disturb an end: it makes of them what the rules of its clock make alone.
pub record IsUndisturbed (who : Role) (bytes : List ℕ) (ends : Ends) : Type 0 where
  pub link : (receipt_at who bytes ends).link ≡ (entered (reading_of (end_of who ends).clock) (end_of who ends).link).link
  pub pdus : (receipt_at who bytes ends).pdus ≡ (entered (reading_of (end_of who ends).clock) (end_of who ends).link).pdus
  pub idle : IsIdle (receipt_at who bytes ends)

-- What an end takes of this copy of a datagram: items only where it was sent less than 1802 ms of true time before;
-- any PDU only where it was sent in the connection that the end is in then; and outside, a server takes a request
-- that was sent after its last close or restart. Nothing of another connection disturbs an end: what comes to one
-- inside was sent in its connection, and one outside that doesn't take it is left as it was.
pub record IsTakenRightly (who : Role) (ends : Ends) (copy : Sent) : Type 0 where
  pub fresh : (receipt_at who copy.bytes ends).items ≢ [] → ends.time < copy.at + freshness
  pub own : is_taken (receipt_at who copy.bytes ends).verdict ≡ true → (end_of who (called who (Receives copy.bytes copy.connection) ends)).connection ≡ Some copy.connection
  pub opening : IsOut who ends → is_taken (receipt_at who copy.bytes ends).verdict ≡ true → IsOpening names who ends copy
  pub inside : IsIn who ends → (end_of who ends).connection ≡ Some copy.connection
  pub outside : IsOut who ends → is_taken (receipt_at who copy.bytes ends).verdict ≡ false → IsUndisturbed who copy.bytes ends

-- A delivery that can happen: what the end does with a copy that was sent, and that other bytes don't disturb it.
pub record IsDeliveredRightly (who : Role) (bytes : List ℕ) (ends : Ends) : Type 0 where
  pub sent : (copy : Sent) → copy_of bytes ends ≡ Some copy → IsTakenRightly who ends copy
  pub damaged : copy_of bytes ends ≡ None → refusal_of_delivery who bytes ends ≡ None → IsUndisturbed who bytes ends

-- what is true of an event by the state in which it happens
abbrev pub HappensRightly : PairEvent → Ends → Type 0
HappensRightly (event.Deliver who bytes) ends = IsDeliveredRightly who bytes.items ends
HappensRightly _ ends = Unit {0}
