-- A command opens no link that is closed.
use Rattle.std.proofs.Common.{◌≡◌, ℕ, false, List, refl}
use Rattle.std.specs.Prelude.{is_ok}
use Rattle.std.proofs.lemmas.Bool.{true≢false}
use Rattle.ixl_state.specs.rasta_core.Calls.{acceptance, answer_to_send, closing_by, sending_item}
use Rattle.ixl_state.specs.rasta_core.Clock.{settled}
use Rattle.ixl_state.specs.rasta_core.PdusHandedOut.{entered, limited, silent}
use Rattle.ixl_state.specs.rasta_core.State.{LinkState, is_open, is_up}
use Rattle.ixl_state.specs.rasta_core.phase.Phase.{Phase}
use Rattle.ixl_state.specs.rasta_core.phase.Phase.TheVariants as phase
use Rattle.ixl_state.specs.rasta_core.reason.Reason.{Reason}
use Rattle.ixl_state.specs.rasta_core.reason.Reason.TheVariants as reason
use Rattle.ixl_state.specs.sci_telegram.Telegrams.{writing}
use Rattle.ixl_state.specs.sci_telegram.declared.message.Message.{Message}
use Rattle.ixl_state.specs.ixl_client.Client.{ClientState}
use Rattle.ixl_state.specs.ixl_client.ClientSoFar.{ClientSoFar, calling}
use Rattle.ixl_state.specs.ixl_client.Step.{commanding, fallen, is_refused_by_window, message_of, posting, telegram_to}
use Rattle.ixl_state.specs.ixl_client.declared.command.Command.{Command}
use Rattle.ixl_laws.proofs.PickedByTest.{either}

abbrev IsShut : LinkState → Type 0
IsShut link = is_open link.phase ≡ false

shut_not_up : (p : Phase) → is_open p ≡ false → is_up p ≡ false
shut_not_up phase.Closed shut = refl
shut_not_up phase.Start shut = absurd (true≢false shut)
shut_not_up phase.Up shut = absurd (true≢false shut)
shut_not_up phase.RetransmissionRequested shut = absurd (true≢false shut)
shut_not_up phase.RetransmissionRunning shut = absurd (true≢false shut)

limited_shut : (link : LinkState) → IsShut link → limited link ≡ silent link
unfolding limited
limited_shut link shut = rw shut refl

entered_shut : (now : ℕ) (link : LinkState) → IsShut link → IsShut (entered now link).link
unfolding entered settled
entered_shut now link shut = rw (shut, limited_shut (record link { clock = now }) shut) shut

accepts_none : (link : LinkState) → IsShut link → is_ok (acceptance link) ≡ false
unfolding acceptance
accepts_none link shut = rw (shut_not_up link.phase shut) refl

sending_shut : (now : ℕ) (item : List ℕ) (link : LinkState) → IsShut link → IsShut (sending_item now item link).link
unfolding sending_item
sending_shut now item link shut =
    let begun = entered_shut now link shut
    in rw (accepts_none (entered now link).link begun) begun

closing_shut : (now : ℕ) (why : Reason) (link : LinkState) → IsShut link → IsShut (closing_by now why link).link
unfolding closing_by
closing_shut now why link shut =
    let begun = entered_shut now link shut
    in rw begun begun

posting_shut : (now : ℕ) (told : Message) (part : ClientSoFar) → IsShut part.client.link → IsShut (posting now told part).client.link
unfolding posting calling
posting_shut now told part shut =
    let item = writing (telegram_to part.client.peer told)
    in let sent = sending_shut now item part.client.link shut
    in either (λ (p : ClientSoFar). IsShut p.client.link) (is_refused_by_window (answer_to_send now part.client.link)) _ _ (closing_shut now reason.Window (sending_item now item part.client.link).link sent) sent

fallen_shut : (client : ClientState) → IsShut client.link → IsShut (fallen client).link
unfolding fallen
fallen_shut client shut = either (λ (c : ClientState). IsShut c.link) (is_up client.link.phase) _ _ shut shut

pub commanding_shut : (now : ℕ) (command : Command) (part : ClientSoFar) → IsShut part.client.link → IsShut (commanding now command part).client.link
unfolding commanding
commanding_shut now command part shut = fallen_shut _ (posting_shut now (message_of command) part shut)
