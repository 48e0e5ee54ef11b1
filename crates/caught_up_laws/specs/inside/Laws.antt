-- What this crate borrows of the crates below it: their laws, by what they speak of.
use Rattle.std.specs.Prelude.{◌≡◌, ◌≤◌, ◌<◌, ◌^◌, ℕ, true, false, List, [], ◌++◌, Some, None, Ok, Err, ◌⊎◌}
use Rattle.std.specs.Prelude.{◌==◌, ◌&&◌}
use Rattle.rasta_core_spec.specs.State.{LinkState, is_client, is_open}
use Rattle.rasta_core_spec.specs.Clock.{settled}
use Rattle.rasta_core_spec.specs.PdusHandedOut.{entered, silent}
use Rattle.rasta_core_spec.specs.Establishment.{granting, own_opening}
use Rattle.rasta_core_spec.specs.Receipt.{hearing, refusing}
use Rattle.rasta_core_spec.specs.Calls.{answer_to_send, closing_by, created, opening, opens, receiving, sending_item, ticking}
use Rattle.rasta_core_spec.specs.identity.Identity.{Identity}
use Rattle.rasta_core_spec.specs.reason.Reason.{Reason}
use Rattle.rasta_core_spec.specs.verdict.Verdict.{Verdict}
use Rattle.rasta_core.specs.FirstPdus.{Asks, EarlyGoesOn, Grants, HearsOutside, IsEarly, PlaysEarly}
use Rattle.rasta_core.specs.Carried.{carried}
use Rattle.rasta_core.specs.Order.{InOrder}
use Rattle.rasta_core.specs.EndFlow.{IsAt, IsOf, EndFlow}
use Rattle.rasta_core.specs.LinkAndFlow.{accepted, Plays, ReceiptGoesOn, StepGoesOn}
use Rattle.rasta_core.specs.Ordered.{Ordered}
use Rattle.rasta_core_spec.specs.identity.Role.{Role}
use Rattle.rasta_core_spec.specs.identity.Role.TheVariants as role
use Rattle.rasta_core_spec.specs.Each.{Each}
use Rattle.rasta_core_spec.specs.Ends.{Call, EndState, Sent, is_taken, outcome, reading_of}
use Rattle.rasta_core_spec.specs.Run.{Ends, end_of}
use Rattle.rasta_core_spec.specs.Events.{AreForeign, Event, IsDelivered, May, MayCall, MayRun, Start, happened, run, started}
use Rattle.rasta_core_spec.specs.Given.{IsGiven}
use Rattle.rasta_core_spec.specs.Safe.{DoesNothing, IsIdle}
use Rattle.rasta_core_spec.specs.Names.{AreNames, Names}
use Rattle.rasta_core.specs.Invariant.{Timely}
use Rattle.rasta_core_spec.specs.Sentences.{IsIn, IsOpening, IsOut, receipt_at}
use Rattle.rasta_core_spec.specs.PduRead.{reading}
use Rattle.rasta_core_spec.specs.SafetyCode.{IsIntact}
use Rattle.rasta_core_spec.specs.Spelling.{writing}
use Rattle.rasta_core_spec.specs.Values.{IsPdu}
use Rattle.rasta_core_spec.specs.key.Key.{Key}
use Rattle.rasta_core_spec.specs.pdu.Pdu.{Pdu}
use Rattle.rasta_core_spec.specs.pdu_fault.PduFault.{PduFault}

pub record Laws : Type 0 where
  -- an item that is accepted is sent
  pub sending_carries : (now : ℕ) (item : List ℕ) (link : LinkState) → carried (sending_item now item link).pdus ≡ accepted (answer_to_send now link) item
  -- what is written is read
  pub written : (key : Key) (pdu : Pdu) → IsPdu pdu → reading key (writing key pdu) ≡ Ok pdu
  pub was_written : (key : Key) (bytes : List ℕ) (pdu : Pdu) → reading key bytes ≡ Ok pdu → IsIntact key bytes
  -- what an end outside takes is an opening
  pub taken_opening : (names : Names) (ends : Ends) (who : Role) (bytes : List ℕ) (connection : ℕ) (datagram : Sent) → AreNames names → Timely names ends
      → IsDelivered ends bytes connection datagram → IsOut who ends → is_taken (receipt_at who bytes ends).verdict ≡ true → IsOpening names who ends datagram
  -- each call keeps the order
  pub settled_plays : (now : ℕ) (link : LinkState) (own other : EndFlow) → InOrder own other → Plays link own other → Plays (settled now link) own other
  pub ticking_on : (now : ℕ) (link : LinkState) (own other : EndFlow) → InOrder own other → Plays link own other → StepGoesOn own other (ticking now link) []
  pub closing_on : (now : ℕ) (link : LinkState) (own other : EndFlow) → InOrder own other → Plays link own other → (why : Reason) → StepGoesOn own other (closing_by now why link) []
  pub sending_on : (now : ℕ) (link : LinkState) (own other : EndFlow) → InOrder own other → Plays link own other
      → (item : List ℕ) → StepGoesOn own other (sending_item now item link) (accepted (answer_to_send now link) item)
  pub opening_not : (now : ℕ) (link : LinkState) (own other : EndFlow) → InOrder own other → Plays link own other → opens now link ≡ false → StepGoesOn own other (opening now link) []
  -- and so does whatever comes
  pub hearing_on : (now : ℕ) (link : LinkState) (own other : EndFlow) → InOrder own other → Plays link own other → (bytes : List ℕ) (pdu : Pdu) → reading link.identity.key bytes ≡ Ok pdu
      → IsOf pdu other.flow → is_open (entered now link).link.phase ≡ true → ReceiptGoesOn own other (receiving now bytes link)
  pub unreadable_on : (now : ℕ) (link : LinkState) (own other : EndFlow) → InOrder own other → Plays link own other → (bytes : List ℕ) (fault : PduFault)
      → reading link.identity.key bytes ≡ Err fault → ReceiptGoesOn own other (receiving now bytes link)
  pub stranger_on : (now : ℕ) (link : LinkState) (own other : EndFlow) → InOrder own other → Plays link own other → (bytes : List ℕ) (pdu : Pdu) → reading link.identity.key bytes ≡ Ok pdu
      → ((pdu.receiver == link.identity.own) && (pdu.sender == link.identity.partner)) ≡ false → ReceiptGoesOn own other (receiving now bytes link)
  pub refusing_on : (now : ℕ) (link : LinkState) (own other : EndFlow) → InOrder own other → Plays link own other → (bytes : List ℕ) (pdu : Pdu) (why : Verdict)
      → reading link.identity.key bytes ≡ Ok pdu → hearing pdu (entered now link).link ≡ refusing why (entered now link).link → ReceiptGoesOn own other (receiving now bytes link)
  -- what one end does leaves the other in its part
  pub swapped : (own other : EndFlow) → InOrder own other → InOrder other own
  pub partner_plays : (link : LinkState) (own other later : EndFlow) (more : List Pdu) → Plays link own other → later.first ≡ other.first → later.flow ≡ other.flow ++ more → Plays link own later
  pub anew : (identity : Identity) (first now : ℕ) (own other : EndFlow) → Plays (created identity first now) own other
  -- a client alone stays so
  pub early_plays : (link : LinkState) (client server : EndFlow) → IsEarly client → PlaysEarly link client → server.first < 2 ^ 32 → Plays link client server
  pub early_settled : (now : ℕ) (link : LinkState) (client : EndFlow) → IsEarly client → PlaysEarly link client → PlaysEarly (settled now link) client
  pub early_ticking : (now : ℕ) (link : LinkState) (client : EndFlow) → IsEarly client → PlaysEarly link client → EarlyGoesOn client (ticking now link).link (ticking now link).pdus
  pub early_closing : (now : ℕ) (link : LinkState) (client : EndFlow) → IsEarly client → PlaysEarly link client → (why : Reason)
      → EarlyGoesOn client (closing_by now why link).link (closing_by now why link).pdus
  pub early_sending : (now : ℕ) (link : LinkState) (client : EndFlow) → IsEarly client → PlaysEarly link client → (item : List ℕ)
      → EarlyGoesOn client (sending_item now item link).link (sending_item now item link).pdus
  pub early_accepts : (now : ℕ) (link : LinkState) (client : EndFlow) → IsEarly client → PlaysEarly link client → (item : List ℕ) → accepted (answer_to_send now link) item ≡ []
  pub opening_not_early : (now : ℕ) (link : LinkState) (client : EndFlow) → IsEarly client → PlaysEarly link client → opens now link ≡ false
      → EarlyGoesOn client (opening now link).link (opening now link).pdus
  pub early_unreadable : (now : ℕ) (link : LinkState) (client : EndFlow) → IsEarly client → PlaysEarly link client → (bytes : List ℕ) (fault : PduFault)
      → reading link.identity.key bytes ≡ Err fault → EarlyGoesOn client (receiving now bytes link).link (receiving now bytes link).pdus
  pub early_stranger : (now : ℕ) (link : LinkState) (client : EndFlow) → IsEarly client → PlaysEarly link client → (bytes : List ℕ) (pdu : Pdu) → reading link.identity.key bytes ≡ Ok pdu
      → ((pdu.receiver == link.identity.own) && (pdu.sender == link.identity.partner)) ≡ false → EarlyGoesOn client (receiving now bytes link).link (receiving now bytes link).pdus
  -- how a connection begins
  pub opening_asks : (now : ℕ) (link : LinkState) → opens now link ≡ true → Asks (opening now link).link (opening now link).pdus
  pub entered_outside : (now : ℕ) (link : LinkState) → is_open link.phase ≡ false → entered now link ≡ silent (record link { clock = now })
  pub hears_outside : (pdu : Pdu) (link : LinkState) → is_open link.phase ≡ false → HearsOutside pdu link (hearing pdu link)
  pub granting_on : (client : EndFlow) → IsEarly client → (link : LinkState) (pdu : Pdu) → is_client link.identity.role ≡ false → 1 ≤ link.clock → IsAt 0 pdu client.flow
      → Grants client (granting pdu own_opening link).link (granting pdu own_opening link).pdus
  -- what calls hand out
  pub pdus : (names : Names) (ends : Ends) (who : Role) (call : Call) → Timely names ends → MayCall names who call ends → Each IsPdu (outcome call ends.moment (end_of who ends)).pdus
  -- an end outside
  pub stays_out : (call : Call) (moment : ℕ) (end : EndState) → is_open end.link.phase ≡ false → (outcome call moment end).enters ≡ None → is_open (outcome call moment end).link.phase ≡ false
  pub does_nothing : (call : Call) (moment : ℕ) (end : EndState) → is_open end.link.phase ≡ false → (outcome call moment end).enters ≡ None → DoesNothing (outcome call moment end)
  pub idle : (names : Names) (ends : Ends) (who : Role) (bytes : List ℕ) → Timely names ends → (IsIntact names.key bytes → ⊥) ⊎ AreForeign names who bytes → IsIdle (receipt_at who bytes ends)
  -- two ends over time
  pub starts_timely : (names : Names) (start : Start) → AreNames names → Timely names (started names start)
  pub event_timely : (names : Names) (event : Event) (ends : Ends) → AreNames names → Timely names ends → May names event ends → Timely names (happened event ends)
  pub are_settled : (names : Names) (ends : Ends) (who : Role) → Timely names ends → settled (reading_of (end_of who ends).clock) (end_of who ends).link ≡ (end_of who ends).link
  pub server_joins : (names : Names) (ends : Ends) → Timely names ends → IsIn role.Server ends → ends.server.connection ≡ ends.client.connection
  pub starts_given : (names : Names) (start : Start) (who : Role) → IsGiven names who (started names start)
  pub kept_given : (names : Names) (events : List Event) (ends : Ends) → AreNames names → Timely names ends → ((who : Role) → IsGiven names who ends) → MayRun names events ends
      → (who : Role) → IsGiven names who (run events ends)
  pub starts_ordered : (names : Names) (start : Start) → Ordered names (started names start)
  pub event_ordered : (names : Names) (event : Event) (ends : Ends) → AreNames names → Timely names ends → Ordered names ends → May names event ends → Ordered names (happened event ends)
  pub alone_gives_none : (names : Names) (ends : Ends) (connection : ℕ) → Ordered names ends → ends.client.connection ≡ Some connection
      → (ends.server.connection ≡ Some connection → ⊥) → (ends.client.given ≡ []) × (ends.client.taken ≡ [])
