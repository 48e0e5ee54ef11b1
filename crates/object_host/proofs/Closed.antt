-- A link that is in no connection: no call but one that takes something brings it into one.
use Rattle.std.proofs.Common.{◌≡◌, ℕ, Bool, true, false, List, refl, ap, ◌∙◌, if◌then◌else◌}
use Rattle.std.specs.Prelude.{is_ok}
use Rattle.std.proofs.lemmas.Bool.{true≢false}
use Rattle.rasta_core.specs.State.{LinkState, is_open, is_up}
use Rattle.rasta_core.specs.Clock.{settled}
use Rattle.rasta_core.specs.PdusHandedOut.{Step, beating as link_beats, closing, entered, giving, limited, silent as links_silent, telling, then_do as links_then}
use Rattle.rasta_core.specs.Calls.{acceptance, closing_by, sending_item, ticking}
use Rattle.rasta_core.specs.phase.Phase.{Phase}
use Rattle.rasta_core.specs.phase.Phase.TheVariants as phase
use Rattle.rasta_core.specs.reason.Reason.{Reason}
use Rattle.rasta_core.specs.reason.Reason.TheVariants as reason

-- a closed link stays closed, whatever the clock does
pub settled_is : (now : ℕ) (link : LinkState) → is_open link.phase ≡ false → settled now link ≡ record link { clock = now }
unfolding settled
settled_is now link closed = rw closed refl

limited_is : (link : LinkState) → is_open link.phase ≡ false → limited link ≡ links_silent link
unfolding limited
limited_is link closed = rw closed refl

not_up : (p : Phase) → is_open p ≡ false → is_up p ≡ false
not_up phase.Closed closed = refl
not_up phase.Start closed = refl
not_up phase.Up closed = absurd (true≢false closed)
not_up phase.RetransmissionRequested closed = absurd (true≢false closed)
not_up phase.RetransmissionRunning closed = absurd (true≢false closed)

beats_not : (link : LinkState) → is_open link.phase ≡ false → link_beats link ≡ links_silent link
unfolding link_beats
beats_not link closed = rw (not_up link.phase closed) refl

pub settled_closed : (now : ℕ) (link : LinkState) → is_open link.phase ≡ false → is_open (settled now link).phase ≡ false
settled_closed now link closed = ap (λ (l : LinkState). is_open l.phase) (settled_is now link closed) ∙ closed

pub ticking_closed : (now : ℕ) (link : LinkState) → is_open link.phase ≡ false → is_open (ticking now link).link.phase ≡ false
unfolding ticking entered
ticking_closed now link closed =
    let enters : limited (settled now link) ≡ links_silent (record link { clock = now }) =
    ap limited (settled_is now link closed) ∙ limited_is (record link { clock = now }) closed
    in ap (λ (s : Step). is_open (links_then s link_beats).link.phase) enters
    ∙ ap (λ (s : Step). is_open s.link.phase) (beats_not (record link { clock = now }) closed) ∙ closed

entered_is : (now : ℕ) (link : LinkState) → is_open link.phase ≡ false → entered now link ≡ links_silent (record link { clock = now })
unfolding entered
entered_is now link closed = ap limited (settled_is now link closed) ∙ limited_is (record link { clock = now }) closed

-- what a close does to a link that has entered
close_here : Reason → LinkState → Step
close_here why l = if is_open l.phase then closing why l else links_silent l

pub closing_closed : (now : ℕ) (why : Reason) (link : LinkState) → is_open link.phase ≡ false → is_open (closing_by now why link).link.phase ≡ false
unfolding closing_by close_here
closing_closed now why link closed =
    ap (λ (s : Step). is_open (links_then s (close_here why)).link.phase) (entered_is now link closed)
    ∙ ap (λ b. is_open (if b then closing why (record link { clock = now }) else links_silent (record link { clock = now })).link.phase) closed
    ∙ closed

-- what a send does to a link that has entered
send_here : List ℕ → LinkState → Step
send_here item l = if is_ok (acceptance l) then giving item l else links_silent l

not_accepted : (link : LinkState) → is_open link.phase ≡ false → is_ok (acceptance link) ≡ false
unfolding acceptance
not_accepted link closed = rw (not_up link.phase closed) refl

pub sending_closed : (now : ℕ) (item : List ℕ) (link : LinkState) → is_open link.phase ≡ false → is_open (sending_item now item link).link.phase ≡ false
unfolding sending_item send_here
sending_closed now item link closed =
    ap (λ (s : Step). is_open (links_then s (send_here item)).link.phase) (entered_is now link closed)
    ∙ ap (λ b. is_open (if b then giving item (record link { clock = now }) else links_silent (record link { clock = now })).link.phase) (not_accepted (record link { clock = now }) closed)
    ∙ closed

-- a close with reason 1 closes
pub closing_closes : (now : ℕ) (link : LinkState) → is_open (closing_by now reason.State link).link.phase ≡ false
unfolding closing_by closing telling
closing_closes now link = cases (is_open (entered now link).link.phase) refl where
  l : LinkState
  l = (entered now link).link

  cases : (b : Bool) → is_open l.phase ≡ b → is_open (if is_open l.phase then closing reason.State l else links_silent l).link.phase ≡ false
  cases true is = rw is refl
  cases false is = rw is is
