-- A client is outside exactly where its link isn't up: how each part of a step keeps it.
use Rattle.std.proofs.Common.{inl, inr, ◌≡◌, ◌⊎◌, ℕ, Bool, true, false, not, if◌then◌else◌, List, [], ◌∷◌, refl, ap, sym, ◌∙◌, subst}
use Rattle.std.specs.Prelude.{◌&&◌, is_ok, nat_le}
use Rattle.std.proofs.lemmas.Bool.{true≢false}
use Rattle.sci_telegram.specs.TelegramRead.{reading}
use Rattle.sci_telegram.specs.Telegrams.{writing}
use Rattle.sci_telegram.specs.declared.message.Message.{Message}
use Rattle.sci_telegram.specs.declared.message.Initialisation.TheVariants.{VersionCheck}
use Rattle.rasta_core.specs.State.{LinkState, is_client, is_open, is_up}
use Rattle.rasta_core.specs.Clock.{deadline, settled}
use Rattle.rasta_core.specs.Parameters.{connection_limit}
use Rattle.rasta_core.specs.PdusHandedOut.{Step, beating, closing, entered, giving, is_told, limited, sending, silent, telling}
use Rattle.rasta_core.specs.Establishment.{beginning, may_open, requesting}
use Rattle.rasta_core.specs.Calls.{IsAt, acceptance, answer_to_send, closing_by, created, opening, receiving, sending_item, ticking as beats}
use Rattle.rasta_core.specs.phase.Phase.{Phase}
use Rattle.rasta_core.specs.phase.Phase.TheVariants as phase
use Rattle.rasta_core.specs.identity.Identity.{Identity}
use Rattle.rasta_core.specs.reason.Reason.{Reason}
use Rattle.rasta_core.specs.reason.Reason.TheVariants as reason
use Rattle.ixl_client.specs.Client.{ClientState, IsClient, PeerState, is_outside}
use Rattle.ixl_client.specs.ClientSoFar.{Closes, Opens, ClientSoFar, Receives, Seen, Sends, Ticks, calling}
use Rattle.ixl_client.specs.Step.{acted_on, acting, acting_all, at_stage, clocked, commanding, meaning_of_item, ending, fallen, following, hearing, is_refused_by_window, message_of, posting, rising, saying, stage_after_command, stage_after_report, telegram_to, ticking}
use Rattle.ixl_client.specs.Way.{Goes}
use Rattle.ixl_client.specs.declared.command.Command.{Command}
use Rattle.ixl_client.specs.declared.command.Command.TheVariants as commands
use Rattle.ixl_client.specs.declared.meaning.Meaning.{Meaning}
use Rattle.ixl_client.specs.declared.meaning.Meaning.TheVariants as meanings
use Rattle.ixl_client.specs.declared.stage.Stage.{Stage}
use Rattle.ixl_client.specs.declared.stage.Stage.TheVariants as stage

abbrev pub IsDown : LinkState → Type 0
IsDown link = is_up link.phase ≡ false

-- ---- no call but a receipt brings a link up

settled_down : (now : ℕ) (link : LinkState) → IsDown link → IsDown (settled now link)
unfolding settled
settled_down now link down = cases (is_open link.phase && nat_le (deadline link) now) where
  cases : (b : Bool) → IsDown (if b then record link { phase = phase.Closed; closed_at = deadline link; clock = now } else record link { clock = now })
  cases true = refl
  cases false = down

limited_down : (link : LinkState) → IsDown link → IsDown (limited link).link
unfolding limited telling
limited_down link down = cases (is_open link.phase && nat_le connection_limit link.sent) where
  cases : (b : Bool) → IsDown (if b then telling reason.Sequence link else silent link).link
  cases true = refl
  cases false = down

entered_down : (now : ℕ) (link : LinkState) → IsDown link → IsDown (entered now link).link
unfolding entered
entered_down now link down = limited_down (settled now link) (settled_down now link down)

beating_down : (link : LinkState) → IsDown link → IsDown (beating link).link
unfolding beating
beating_down link down = rw down down

beats_down : (now : ℕ) (link : LinkState) → IsDown link → IsDown (beats now link).link
unfolding beats
beats_down now link down = beating_down (entered now link).link (entered_down now link down)

giving_down : (item : List ℕ) (link : LinkState) → IsDown link → IsDown (giving item link).link
unfolding giving sending
giving_down item link down = down

sends_down : (now : ℕ) (item : List ℕ) (link : LinkState) → IsDown link → IsDown (sending_item now item link).link
unfolding sending_item
sends_down now item link down = cases (is_ok (acceptance (entered now link).link)) where
  cases : (b : Bool) → IsDown (if b then giving item (entered now link).link else silent (entered now link).link).link
  cases true = giving_down item (entered now link).link (entered_down now link down)
  cases false = entered_down now link down

requesting_down : (link : LinkState) → IsDown (requesting link).link
unfolding requesting sending beginning
requesting_down link = refl

opens_down : (now : ℕ) (link : LinkState) → IsDown link → IsDown (opening now link).link
unfolding opening
opens_down now link down = cases (may_open (entered now link).link) where
  cases : (b : Bool) → IsDown (if b then requesting (entered now link).link else silent (entered now link).link).link
  cases true = requesting_down (entered now link).link
  cases false = entered_down now link down

not_open : (p : Phase) → is_open p ≡ false → is_up p ≡ false
not_open phase.Closed closed = refl
not_open phase.Start closed = refl
not_open phase.Up closed = absurd (true≢false closed)
not_open phase.RetransmissionRequested closed = absurd (true≢false closed)
not_open phase.RetransmissionRunning closed = absurd (true≢false closed)

closing_down : (why : Reason) (link : LinkState) → IsDown (closing why link).link
unfolding closing telling
closing_down why link = cases (is_told why) where
  cases : (b : Bool) → IsDown (if b then telling why link else silent (record link { phase = phase.Closed; closed_at = link.clock })).link
  cases true = refl
  cases false = refl

-- a close leaves no link up
closes_down : (now : ℕ) (why : Reason) (link : LinkState) → IsDown (closing_by now why link).link
unfolding closing_by
closes_down now why link = cases (is_open (entered now link).link.phase) refl where
  cases : (b : Bool) → is_open (entered now link).link.phase ≡ b → IsDown (if b then closing why (entered now link).link else silent (entered now link).link).link
  cases true is = closing_down why (entered now link).link
  cases false is = not_open (entered now link).link.phase is

-- ---- steady clients

-- it isn't outside, or its link isn't up
abbrev pub IsSteady : ClientState → Type 0
IsSteady client = (is_outside client.stage ≡ false) ⊎ IsDown client.link

pub steady : (client : ClientState) → IsClient client → IsSteady client
steady client is = cases (is_up client.link.phase) refl where
  cases : (b : Bool) → is_up client.link.phase ≡ b → IsSteady client
  cases true up = inl (is.outside ∙ ap not up)
  cases false down = inr down

pub outside_where_down : (client : ClientState) → IsSteady client → is_outside (fallen client).stage ≡ not (is_up (fallen client).link.phase)
unfolding fallen
outside_where_down client is = cases (is_up client.link.phase) refl where
  cases : (b : Bool) → is_up client.link.phase ≡ b → is_outside (if b then client else record client { stage = stage.Outside }).stage ≡ not (is_up (if b then client else record client { stage = stage.Outside }).link.phase)
  cases true up = one is where
    one : IsSteady client → is_outside client.stage ≡ not (is_up client.link.phase)
    one (inl inside) = inside ∙ sym (ap not up)
    one (inr down) = absurd (true≢false (sym up ∙ down))
  cases false down = sym (ap not down)

posting_down : (now : ℕ) (told : Message) (part : ClientSoFar) → IsDown part.client.link → IsDown (posting now told part).client.link
unfolding posting calling
posting_down now told part down = cases (is_refused_by_window (answer_to_send now part.client.link)) where
  item : List ℕ
  item = writing (telegram_to part.client.peer told)

  cases : (b : Bool) → IsDown (if b then calling now (Closes reason.Window) (calling now (Sends item) part) else calling now (Sends item) part).client.link
  cases true = closes_down now reason.Window (sending_item now item part.client.link).link
  cases false = sends_down now item part.client.link down

either_false : (a b : Bool) → a && b ≡ false → (a ≡ false) ⊎ (b ≡ false)
either_false true b is = inr is
either_false false b is = inl refl

rising_steady : (now : ℕ) (part : ClientSoFar) → IsSteady (rising now part).client
unfolding rising
rising_steady now part = cases (is_outside part.client.stage && is_up part.client.link.phase) refl where
  cases : (b : Bool) → is_outside part.client.stage && is_up part.client.link.phase ≡ b →
      IsSteady (if b then at_stage stage.AwaitsAnswer (saying now (VersionCheck part.client.peer.version) part) else part).client
  cases true is = inl refl
  cases false is = either_false (is_outside part.client.stage) (is_up part.client.link.phase) is

reported_inside : (s : Stage) → is_outside (stage_after_report s) ≡ false
reported_inside stage.Outside = refl
reported_inside stage.AwaitsAnswer = refl
reported_inside stage.AwaitsStart = refl
reported_inside (stage.AwaitsStatus left) = refl
reported_inside stage.Completed = refl
reported_inside stage.AwaitsReport = refl

closing_steady : (now : ℕ) (why : Reason) (part : ClientSoFar) → IsSteady (calling now (Closes why) part).client
unfolding calling
closing_steady now why part = inr (closes_down now why part.client.link)

following_steady : (now : ℕ) (item : List ℕ) (meaning : Meaning) (part : ClientSoFar) → IsSteady (following now item meaning part).client
unfolding following
following_steady now item meanings.Agrees part = inl refl
following_steady now item meanings.Starts part = inl refl
following_steady now item (meanings.Indicates indication) part = inl (reported_inside part.client.stage)
following_steady now item meanings.Completes part = inl refl
following_steady now item meanings.Differs part = closing_steady now reason.Version part
following_steady now item meanings.Violates part = closing_steady now reason.State part

acting_steady : (now : ℕ) (items : List (List ℕ)) (part : ClientSoFar) → IsSteady part.client → IsSteady (acting_all now items part).client
unfolding acting_all acting
acting_steady now [] part is = is
acting_steady now (item ∷ others) part is =
    cases (is_open part.client.link.phase) (acting_steady now others (acting now item part) (following_steady now item (meaning_of_item part.client.peer part.client.stage (reading item)) part))
  where
    cases : (b : Bool) → IsSteady (acting_all now others (acting now item part)).client → IsSteady (if b then acting_all now others (acting now item part) else part).client
    cases true next = next
    cases false next = is

commanded_inside : (command : Command) (s : Stage) → is_outside s ≡ false → is_outside (stage_after_command command s) ≡ false
commanded_inside (commands.Indicate aspect) s inside = inside
commanded_inside (commands.Move side) stage.Outside inside = inside
commanded_inside (commands.Move side) stage.AwaitsAnswer inside = refl
commanded_inside (commands.Move side) stage.AwaitsStart inside = refl
commanded_inside (commands.Move side) (stage.AwaitsStatus left) inside = refl
commanded_inside (commands.Move side) stage.Completed inside = refl
commanded_inside (commands.Move side) stage.AwaitsReport inside = refl

-- ---- the step

-- the client after a part is outside exactly where its link isn't up
abbrev pub Rests : ClientSoFar → Type 0
Rests part = is_outside part.client.stage ≡ not (is_up part.client.link.phase)

pub hearing_rests : (now : ℕ) (bytes : List ℕ) (part : ClientSoFar) → Rests (hearing now bytes part)
unfolding hearing
hearing_rests now bytes part =
    let begun = rising now (calling now (Receives bytes) part)
    in let items = (receiving now bytes part.client.link).items
    in outside_where_down (acting_all now items begun).client (acting_steady now items begun (rising_steady now (calling now (Receives bytes) part)))

pub commanding_rests : (now : ℕ) (command : Command) (part : ClientSoFar) → IsSteady part.client → Rests (commanding now command part)
unfolding commanding
commanding_rests now command part is = outside_where_down _ (stays is) where
  stays : IsSteady part.client → IsSteady (at_stage (stage_after_command command part.client.stage) (posting now (message_of command) part)).client
  stays (inl inside) = inl (commanded_inside command part.client.stage inside)
  stays (inr down) = inr (posting_down now (message_of command) part down)

pub ticking_rests : (now : ℕ) (part : ClientSoFar) → IsSteady part.client → Rests (ticking now part)
unfolding ticking calling
ticking_rests now part is = outside_where_down _ (stays is) where
  stays : IsSteady part.client → IsSteady (calling now Opens (calling now Ticks part)).client
  stays (inl inside) = inl inside
  stays (inr down) = inr (opens_down now (beats now part.client.link).link (beats_down now part.client.link down))

pub clocked_rests : (now : ℕ) (client : ClientState) → IsClient client → is_outside (clocked now client).stage ≡ not (is_up (clocked now client).link.phase)
unfolding clocked
clocked_rests now client is = outside_where_down _ (stays (steady client is)) where
  stays : IsSteady client → IsSteady (record client { link = settled now client.link })
  stays (inl inside) = inl inside
  stays (inr down) = inr (settled_down now client.link down)

pub keeps : (now most : ℕ) (does : ClientSoFar → ClientSoFar) (before after : Seen) → Goes now most does before after → IsClient before.client →
    ((part : ClientSoFar) → IsSteady part.client → Rests (does part)) → IsClient after.client
keeps now most does before after way is rests =
    let part : ClientSoFar = record { client = before.client; outbox = before.outbox; heard = before.heard; calls = []; acted = [] }
    in let same : (does part).client ≡ after.client = ap (λ (v : Seen). v.client) (way.leads part refl)
    in record {
      outside = subst (λ (c : ClientState). is_outside c.stage ≡ not (is_up c.link.phase)) same (rests part (steady before.client is));
      opens = ap (λ i. is_client i.role) way.identity ∙ is.opens;
    }

pub clocked_client : (now : ℕ) (old new : ClientState) → new ≡ clocked now old → IsAt now old.link new.link → IsClient old → IsClient new
clocked_client now old new is at held = record {
  outside = subst (λ (c : ClientState). is_outside c.stage ≡ not (is_up c.link.phase)) (sym is) (clocked_rests now old held);
  opens = ap (λ i. is_client i.role) at.identity ∙ held.opens;
}

created_client : (identity : Identity) (first_sequence_number now : ℕ) (peer : PeerState) → is_client identity.role ≡ true →
    IsClient (record { link = created identity first_sequence_number now; stage = stage.Outside; peer = peer })
unfolding created
created_client identity first_sequence_number now peer opens = record { outside = refl; opens = opens }

pub made_client : (identity : Identity) (first_sequence_number now : ℕ) (peer : PeerState) (link : LinkState) → is_client identity.role ≡ true →
    link ≡ created identity first_sequence_number now → IsClient (record { link = link; stage = stage.Outside; peer = peer })
made_client identity first_sequence_number now peer link opens is =
    subst (λ l. IsClient (record { link = l; stage = stage.Outside; peer = peer })) (sym is) (created_client identity first_sequence_number now peer opens)
