-- What an end sent and gave long ago doesn't wait any more.
use Rattle.std.specs.Prelude.{ℕ, ◌≡◌, ◌≢◌, ◌+◌, ◌≤◌, ◌<◌, length, Ok}
use Rattle.rasta_core_spec.specs.Ends.{EndState, Receives}
use Rattle.rasta_core_spec.specs.Events.{Calls, Event}
use Rattle.rasta_core_spec.specs.Names.{Names}
use Rattle.rasta_core_spec.specs.PduRead.{reading}
use Rattle.rasta_core_spec.specs.Run.{Ends}
use Rattle.rasta_core_spec.specs.State.{LinkState}
use Rattle.rasta_core_spec.specs.body.Body.TheVariants.{RetransmissionRequest}
use Rattle.rasta_core_spec.specs.identity.Role.{Role}
use Rattle.rasta_core_spec.specs.pdu.Pdu.{Pdu}
use Rattle.rasta_core_recovery.specs.Confirming.{AreIn}
use Rattle.rasta_core_recovery.specs.Falls.{WaitFrom}

-- Both ends are in a connection at one moment and at another, and it is the same.
pub record StayIn (one other : Ends) : Type 0 where
  pub before : AreIn one
  pub after : AreIn other
  pub same : other.server.connection ≡ one.server.connection

-- What waits at an end was sent since then, where its own stamp is younger; and so it is where that was 1800 ms ago or before.
pub record WaitsSince (one other : LinkState) : Type 0 where
  pub returned : one.clock < other.own_stamp → WaitFrom one.sent other
  pub long_ago : one.clock + 1800 ≤ other.clock → WaitFrom one.sent other

-- an event in which this end isn't asked to send again what waits
abbrev pub AsksNothingAgain : Names → Role → Event → Type 0
AsksNothingAgain names who (Calls other (Receives bytes connection)) = other ≡ who → (pdu : Pdu) → reading names.key bytes ≡ Ok pdu → pdu.body ≢ RetransmissionRequest
AsksNothingAgain names who _ = Unit {0}

-- No more items wait than an end has given since then, where that was 1800 ms ago or before.
abbrev pub WaitsAsGiven : EndState → EndState → Type 0
WaitsAsGiven one other = one.link.clock + 1800 ≤ other.link.clock → length other.link.waiting + length one.given ≤ length other.given

-- No more items of an end wait at one moment than it has given since another; and at both its link counts what it has given.
pub record WaitsAsGivenSince (one other : EndState) : Type 0 where
  pub items : length other.link.waiting + length one.given ≤ length other.given
  pub counted : one.link.given ≡ length one.given
  pub counts : other.link.given ≡ length other.given

-- Both ends are in a connection, and it was the server's last at an earlier moment, too: so they were in it then.
pub record AreStillIn (one other : Ends) : Type 0 where
  pub are : AreIn other
  pub same : other.server.connection ≡ one.server.connection

-- so many rounds at work are enough for what was given before them, where both ends stay in their connection: 6 s
abbrev pub lasting_rounds : ℕ
lasting_rounds = 600
