-- What is borrowed of the crates below, said once.
use Rattle.std.specs.Prelude.{◌≡◌, ◌↔◌, ◌⊎◌, ◌<◌, ℕ, Bool, true, false, IsTrue, List, [], Some, None}
use Rattle.std.specs.Option.{unwrap_or}
use Rattle.line_end.specs.State.{changed_file}
use Rattle.line_laws.specs.End.{End, File, Seen}
use Rattle.line_laws.specs.Invariant.{IsLineSound}
use Rattle.line_laws.specs.Line.{Line, Move, after, right_rules}
use Rattle.line_laws.specs.Promise.{IsClear}
use Rattle.line_laws.specs.Run.{begins}
use Rattle.line_laws.specs.Step.{step}
use Rattle.line_laws.specs.declared.words.Item.{Item}
use Rattle.line_laws.specs.declared.words.Side.{Side}
use Rattle.line_telegram.specs.LineMessages.{IsLineMessage, reading, writing}
use Rattle.line_telegram.specs.declared.message.LineMessage.{LineMessage}
use Rattle.rasta_core.specs.Clock.{settled}
use Rattle.rasta_core.specs.Ends.{Call, EndState, Sent, is_taken, outcome, reading_of}
use Rattle.rasta_core.specs.Events.{AreForeign, Event, IsDelivered, May, MayRun, Start, happened, run, started}
use Rattle.rasta_core.specs.FirstPdus.{HearsOutside}
use Rattle.rasta_core.specs.Invariant.{Timely}
use Rattle.rasta_core.specs.Names.{AreNames, Names, partner_of}
use Rattle.rasta_core.specs.Ordered.{Ordered}
use Rattle.rasta_core.specs.PdusHandedOut.{entered, silent}
use Rattle.rasta_core.specs.Receipt.{hearing}
use Rattle.rasta_core.specs.Run.{Ends, end_of}
use Rattle.rasta_core.specs.Safe.{AreSafe, IsIdle}
use Rattle.rasta_core.specs.Sentences.{IsDownNow, IsIn, IsOpening, IsOut, receipt_at}
use Rattle.rasta_core.specs.State.{LinkState, is_open, is_up}
use Rattle.rasta_core.specs.Steps.{EnterNone, IsAfter, StaysIn, calls_at}
use Rattle.rasta_core.specs.identity.Role.{Role}
use Rattle.rasta_core.specs.identity.Role.TheVariants as role
use Rattle.rasta_pdu.specs.Items.{IsItem}
use Rattle.rasta_pdu.specs.SafetyCode.{IsIntact, intact}
use Rattle.rasta_pdu.specs.declared.key.Key.{Key}
use Rattle.rasta_pdu.specs.declared.pdu.Pdu.{Pdu}
use Rattle.sci_telegram.specs.Names.{IsName}

pub record Laws : Type 0 where
  -- ---- two ends of a link
  pub starts_timely : (names : Names) (start : Start) → AreNames names → Timely names (started names start)
  pub starts_ordered : (names : Names) (start : Start) → Ordered names (started names start)
  pub event_timely : (names : Names) (event : Event) (ends : Ends) → AreNames names → Timely names ends → May names event ends → Timely names (happened event ends)
  pub event_ordered : (names : Names) (event : Event) (ends : Ends) → AreNames names → Timely names ends → Ordered names ends → May names event ends → Ordered names (happened event ends)
  pub run_timely : (names : Names) (events : List Event) (ends : Ends) → AreNames names → Timely names ends → MayRun names events ends → Timely names (run events ends)
  pub run_ordered : (names : Names) (events : List Event) (ends : Ends) → AreNames names → Timely names ends → Ordered names ends → MayRun names events ends → Ordered names (run events ends)
  pub are_settled : (names : Names) (ends : Ends) (who : Role) → Timely names ends → settled (reading_of (end_of who ends).clock) (end_of who ends).link ≡ (end_of who ends).link
  pub safe : (names : Names) (ends : Ends) → Ordered names ends → AreSafe ends
  -- ---- calls of one end
  pub after_calls : (who : Role) (calls : List Call) (ends : Ends) → IsAfter calls (end_of who ends) (end_of who (run (calls_at who calls) ends))
  pub stays : (who : Role) (calls : List Call) (ends : Ends) → EnterNone (reading_of (end_of who ends).clock) calls (end_of who ends).link
      → StaysIn calls (end_of who ends) (end_of who (run (calls_at who calls) ends))
  pub partner : (who : Role) (calls : List Call) (ends : Ends) → end_of (partner_of who) (run (calls_at who calls) ends) ≡ end_of (partner_of who) ends
  pub time : (who : Role) (calls : List Call) (ends : Ends) → (run (calls_at who calls) ends).time ≡ ends.time
  pub stays_out : (call : Call) (moment : ℕ) (end : EndState) → is_open end.link.phase ≡ false → (outcome call moment end).enters ≡ None → is_open (outcome call moment end).link.phase ≡ false
  pub idle : (names : Names) (ends : Ends) (who : Role) (bytes : List ℕ) → Timely names ends → (IsIntact names.key bytes → ⊥) ⊎ AreForeign names who bytes → IsIdle (receipt_at who bytes ends)
  pub hears_out : (pdu : Pdu) (link : LinkState) → is_open link.phase ≡ false → HearsOutside pdu link (hearing pdu link)
  pub enters_out : (now : ℕ) (link : LinkState) → is_open link.phase ≡ false → entered now link ≡ silent (record link { clock = now })
  -- ---- connections
  pub opening_new : (names : Names) (ends : Ends) (who : Role) (bytes : List ℕ) (connection : ℕ) (datagram : Sent) → AreNames names → Timely names ends
      → IsDelivered ends bytes connection datagram → IsOut who ends → is_taken (receipt_at who bytes ends).verdict ≡ true → IsOpening names who ends datagram
  pub server_in : (names : Names) (ends : Ends) → Timely names ends → IsIn role.Server ends → ends.server.connection ≡ ends.client.connection
  pub counted : (names : Names) (ends : Ends) (who : Role) (connection : ℕ) → Timely names ends → (end_of who ends).connection ≡ Some connection → connection < ends.moment
  pub some : (names : Names) (ends : Ends) (who : Role) → Timely names ends → IsIn who ends → (connection : ℕ) × ((end_of who ends).connection ≡ Some connection)
  pub client_up : (names : Names) (ends : Ends) → Timely names ends → is_up ends.client.link.phase ≡ true → ends.server.connection ≡ ends.client.connection
  pub alone : (names : Names) (ends : Ends) (connection : ℕ) → Ordered names ends → ends.client.connection ≡ Some connection → (ends.server.connection ≡ Some connection → ⊥)
      → (ends.client.given ≡ []) × (ends.client.taken ≡ [])
  pub server_out : (names : Names) (ends : Ends) → Timely names ends → IsDownNow role.Client ends → IsOut role.Server ends
  -- ---- telegrams
  pub read : (sender receiver : List ℕ) (message : LineMessage) → IsName sender → IsName receiver → IsLineMessage message → reading sender receiver (writing sender receiver message) ≡ Some message
  pub item : (sender receiver : List ℕ) (message : LineMessage) → IsName sender → IsName receiver → IsItem (writing sender receiver message)
  pub intact_tested : (key : Key) (bytes : List ℕ) → IsTrue (intact key bytes) ↔ IsIntact key bytes
  -- ---- the ends of a line
  pub each_keeps : (first second : Bool) (line : Line) (move : Move) → IsLineSound (IsTrue first) (IsTrue second) line
      → IsLineSound (IsTrue first ⊎ IsClear (after right_rules move line)) (IsTrue second ⊎ IsClear (after right_rules move line)) (after right_rules move line)
  pub begins_sound : (first second first_busy second_busy : Bool) → IsLineSound (IsTrue first) (IsTrue second) (begins first_busy second_busy)
  pub silent_out : (side : Side) (seen : Seen) (items : List Item) (end : End) → (step side false seen items end).given ≡ []
  pub written : (old new : File) → unwrap_or (changed_file old new) old ≡ new
