-- Which items a client acts on, and what it hears by them.
use Rattle.std.proofs.Common.{◌≡◌, ℕ, Bool, true, false, if◌then◌else◌, List, [], ◌∷◌, ◌++◌, append_assoc, refl, ap, sym, ◌∙◌}
use Rattle.std.specs.Prelude.{◌&&◌, ◌==◌, Option, Some, None, Result, Ok, Err}
use Rattle.std.specs.Str.{bytes_eq}
use Rattle.std.proofs.lemmas.Bool.{true≢false}
use Rattle.std.proofs.lemmas.List.{append-nil}
use Rattle.sci_telegram.specs.TelegramRead.{reading}
use Rattle.sci_telegram.specs.Telegrams.{writing}
use Rattle.sci_telegram.specs.declared.fault.SciFault.{SciFault}
use Rattle.sci_telegram.specs.declared.message.Initialisation.{Initialisation}
use Rattle.sci_telegram.specs.declared.message.Initialisation.TheVariants.{InitialisationRequest, StartInitialisation, InitialisationCompleted, VersionCheck, VersionAnswer}
use Rattle.sci_telegram.specs.declared.message.Message.{Message}
use Rattle.sci_telegram.specs.declared.message.Message.TheVariants as message
use Rattle.sci_telegram.specs.declared.telegram.Telegram.{Telegram}
use Rattle.rasta_core.specs.Calls.{answer_to_send, closing_by, receiving}
use Rattle.rasta_core.specs.PdusHandedOut.{closing, entered, is_told, silent, telling}
use Rattle.rasta_core.specs.State.{LinkState, is_open, is_up}
use Rattle.rasta_core.specs.phase.Phase.TheVariants as phase
use Rattle.rasta_core.specs.reason.Reason.{Reason}
use Rattle.rasta_core.specs.reason.Reason.TheVariants as reason
use Rattle.ixl_client.specs.Client.{ClientState, PeerState, is_outside}
use Rattle.ixl_client.specs.Meaning.{meaning, meaning_of, initial_meaning, is_for_client, is_in_turn, is_in_version, is_match, place_of, report_meaning, state_in}
use Rattle.ixl_client.specs.Made.{ActsOn, told_by, told_by_all, told_of}
use Rattle.ixl_client.specs.ClientSoFar.{Closes, ClientSoFar, Receives, Sends, calling}
use Rattle.ixl_client.specs.Step.{acted_on, acting, acting_all, at_stage, meaning_of_item, ending, fallen, following, hearing, is_refused_by_window, posting, rising, saying, telegram_to}
use Rattle.ixl_client.specs.declared.meaning.Meaning.{Meaning}
use Rattle.ixl_client.specs.declared.meaning.Meaning.TheVariants as meanings
use Rattle.ixl_client.specs.declared.indication.Indication.{Indication}
use Rattle.ixl_client.specs.declared.indication.ObjectState.{ObjectState}
use Rattle.ixl_client.specs.declared.stage.Stage.{Stage}
use Rattle.ixl_client.specs.declared.stage.Stage.TheVariants as stage
use Rattle.ixl_client.proofs.ItemActions.{fallen_link}

-- ---- a close leaves no link open

closing_closes : (why : Reason) (link : LinkState) → is_open (closing why link).link.phase ≡ false
unfolding closing telling
closing_closes why link = cases (is_told why) where
  cases : (b : Bool) → is_open (if b then telling why link else silent (record link { phase = phase.Closed; closed_at = link.clock })).link.phase ≡ false
  cases true = refl
  cases false = refl

closes : (now : ℕ) (why : Reason) (link : LinkState) → is_open (closing_by now why link).link.phase ≡ false
unfolding closing_by
closes now why link = cases (is_open (entered now link).link.phase) refl where
  cases : (b : Bool) → is_open (entered now link).link.phase ≡ b → is_open (if b then closing why (entered now link).link else silent (entered now link).link).link.phase ≡ false
  cases true is = closing_closes why (entered now link).link
  cases false is = is

-- ---- what a course says of its telegram

-- what is heard where an item comes to this course
abbrev pub heard_in : Meaning → List Indication
heard_in (meanings.Indicates indication) = indication ∷ []
heard_in _ = []

-- a course by which the item is acted on
abbrev pub is_acted_on : Meaning → Bool
is_acted_on meanings.Differs = false
is_acted_on meanings.Violates = false
is_acted_on _ = true

report_tells : (peer : PeerState) (place : Option ℕ) (state : Option ObjectState) (s : Stage) → is_acted_on (report_meaning peer place state s) ≡ true →
    heard_in (report_meaning peer place state s) ≡ told_of place state
report_tells peer None state s acts = absurd (true≢false (sym acts))
report_tells peer (Some place) None s acts = absurd (true≢false (sym acts))
report_tells peer (Some place) (Some state) s acts = cases (is_in_turn peer place state s && is_in_version peer.version state) acts where
  cases : (b : Bool) → is_acted_on (if b then meanings.Indicates (record { place = place; state = state }) else meanings.Violates) ≡ true →
      heard_in (if b then meanings.Indicates (record { place = place; state = state }) else meanings.Violates) ≡ record { place = place; state = state } ∷ []
  cases true acted = refl
  cases false acted = absurd (true≢false (sym acted))

initial_tells : (peer : PeerState) (initialisation : Initialisation) (s : Stage) → heard_in (initial_meaning peer initialisation s) ≡ []
initial_tells peer InitialisationRequest stage.Outside = refl
initial_tells peer InitialisationRequest stage.AwaitsAnswer = refl
initial_tells peer InitialisationRequest stage.AwaitsStart = refl
initial_tells peer InitialisationRequest (stage.AwaitsStatus left) = refl
initial_tells peer InitialisationRequest stage.Completed = refl
initial_tells peer InitialisationRequest stage.AwaitsReport = refl
initial_tells peer StartInitialisation stage.Outside = refl
initial_tells peer StartInitialisation stage.AwaitsAnswer = refl
initial_tells peer StartInitialisation stage.AwaitsStart = refl
initial_tells peer StartInitialisation (stage.AwaitsStatus left) = refl
initial_tells peer StartInitialisation stage.Completed = refl
initial_tells peer StartInitialisation stage.AwaitsReport = refl
initial_tells peer InitialisationCompleted stage.Outside = refl
initial_tells peer InitialisationCompleted stage.AwaitsAnswer = refl
initial_tells peer InitialisationCompleted stage.AwaitsStart = refl
initial_tells peer InitialisationCompleted (stage.AwaitsStatus left) = cases (left == 0) where
  cases : (b : Bool) → heard_in (if b then meanings.Completes else meanings.Violates) ≡ []
  cases true = refl
  cases false = refl
initial_tells peer InitialisationCompleted stage.Completed = refl
initial_tells peer InitialisationCompleted stage.AwaitsReport = refl
initial_tells peer (VersionCheck version) stage.Outside = refl
initial_tells peer (VersionCheck version) stage.AwaitsAnswer = refl
initial_tells peer (VersionCheck version) stage.AwaitsStart = refl
initial_tells peer (VersionCheck version) (stage.AwaitsStatus left) = refl
initial_tells peer (VersionCheck version) stage.Completed = refl
initial_tells peer (VersionCheck version) stage.AwaitsReport = refl
initial_tells peer (VersionAnswer agreement version) stage.Outside = refl
initial_tells peer (VersionAnswer agreement version) stage.AwaitsAnswer = cases (is_match agreement && version == peer.version) where
  cases : (b : Bool) → heard_in (if b then meanings.Agrees else meanings.Differs) ≡ []
  cases true = refl
  cases false = refl
initial_tells peer (VersionAnswer agreement version) stage.AwaitsStart = refl
initial_tells peer (VersionAnswer agreement version) (stage.AwaitsStatus left) = refl
initial_tells peer (VersionAnswer agreement version) stage.Completed = refl
initial_tells peer (VersionAnswer agreement version) stage.AwaitsReport = refl

meaning_tells : (peer : PeerState) (sender : List ℕ) (told : Message) (s : Stage) → is_acted_on (meaning_of peer sender told s) ≡ true →
    heard_in (meaning_of peer sender told s) ≡ told_of (place_of peer sender) (state_in told)
meaning_tells peer sender (message.Initialisation protocol initialisation) s acts = cases (bytes_eq sender peer.name) acts where
  none : (place : Option ℕ) → told_of place None ≡ []
  none None = refl
  none (Some place) = refl

  cases : (b : Bool) → is_acted_on (if b then initial_meaning peer initialisation s else meanings.Violates) ≡ true →
      heard_in (if b then initial_meaning peer initialisation s else meanings.Violates) ≡ told_of (place_of peer sender) None
  cases true acted = initial_tells peer initialisation s ∙ sym (none (place_of peer sender))
  cases false acted = absurd (true≢false (sym acted))
meaning_tells peer sender (message.Point told) s acts = report_tells peer (place_of peer sender) (state_in (message.Point told)) s acts
meaning_tells peer sender (message.Signal told) s acts = report_tells peer (place_of peer sender) (state_in (message.Signal told)) s acts
meaning_tells peer sender (message.Detection told) s acts = report_tells peer (place_of peer sender) (state_in (message.Detection told)) s acts

telegram_tells : (peer : PeerState) (telegram : Telegram) (s : Stage) → is_acted_on (meaning peer telegram s) ≡ true →
    heard_in (meaning peer telegram s) ≡ told_of (place_of peer telegram.sender) (state_in telegram.message)
unfolding meaning
telegram_tells peer telegram s = cases (is_for_client peer telegram) where
  cases : (b : Bool) → is_acted_on (if b then meaning_of peer telegram.sender telegram.message s else meanings.Violates) ≡ true →
      heard_in (if b then meaning_of peer telegram.sender telegram.message s else meanings.Violates) ≡ told_of (place_of peer telegram.sender) (state_in telegram.message)
  cases true acts = meaning_tells peer telegram.sender telegram.message s acts
  cases false acts = absurd (true≢false (sym acts))

item_tells : (peer : PeerState) (s : Stage) (read : Result Telegram SciFault) → is_acted_on (meaning_of_item peer s read) ≡ true →
    heard_in (meaning_of_item peer s read) ≡ told_by peer read
item_tells peer s (Ok telegram) acts = telegram_tells peer telegram s acts
item_tells peer s (Err fault) acts = absurd (true≢false (sym acts))

-- ---- the items of a datagram

-- what became of an item: it was acted on, or it closed the link
data Fate (item : List ℕ) (before after : ClientSoFar) : Type 0 where
  obeyed : after.acted ≡ before.acted ++ item ∷ [] → after.heard ≡ before.heard ++ told_by before.client.peer (reading item) → Fate item before after
  refused : after.acted ≡ before.acted → after.heard ≡ before.heard → is_open after.client.link.phase ≡ false → Fate item before after

posting_acted : (now : ℕ) (told : Message) (a : ClientSoFar) → (posting now told a).acted ≡ a.acted
unfolding posting calling
posting_acted now told a = cases (is_refused_by_window (answer_to_send now a.client.link)) where
  sent : ClientSoFar
  sent = calling now (Sends (writing (telegram_to a.client.peer told))) a

  cases : (b : Bool) → (if b then calling now (Closes reason.Window) sent else sent).acted ≡ a.acted
  cases true = refl
  cases false = refl

posting_heard : (now : ℕ) (told : Message) (a : ClientSoFar) → (posting now told a).heard ≡ a.heard
unfolding posting calling
posting_heard now told a = cases (is_refused_by_window (answer_to_send now a.client.link)) where
  sent : ClientSoFar
  sent = calling now (Sends (writing (telegram_to a.client.peer told))) a

  cases : (b : Bool) → (if b then calling now (Closes reason.Window) sent else sent).heard ≡ a.heard
  cases true = refl
  cases false = refl

pub posting_peer : (now : ℕ) (told : Message) (a : ClientSoFar) → (posting now told a).client.peer ≡ a.client.peer
unfolding posting calling
posting_peer now told a = cases (is_refused_by_window (answer_to_send now a.client.link)) where
  sent : ClientSoFar
  sent = calling now (Sends (writing (telegram_to a.client.peer told))) a

  cases : (b : Bool) → (if b then calling now (Closes reason.Window) sent else sent).client.peer ≡ a.client.peer
  cases true = refl
  cases false = refl

following_fate : (now : ℕ) (item : List ℕ) (c : Meaning) (a : ClientSoFar) → (is_acted_on c ≡ true → heard_in c ≡ told_by a.client.peer (reading item)) → Fate item a (following now item c a)
unfolding following calling
following_fate now item meanings.Agrees a tells =
    obeyed (posting_acted now _ (acted_on item a)) (posting_heard now _ (acted_on item a) ∙ sym (append-nil a.heard) ∙ ap (λ hs. a.heard ++ hs) (tells refl))
following_fate now item meanings.Starts a tells = obeyed refl (sym (append-nil a.heard) ∙ ap (λ hs. a.heard ++ hs) (tells refl))
following_fate now item (meanings.Indicates indication) a tells = obeyed refl (ap (λ hs. a.heard ++ hs) (tells refl))
following_fate now item meanings.Completes a tells = obeyed refl (sym (append-nil a.heard) ∙ ap (λ hs. a.heard ++ hs) (tells refl))
following_fate now item meanings.Differs a tells = refused refl refl (closes now reason.Version a.client.link)
following_fate now item meanings.Violates a tells = refused refl refl (closes now reason.State a.client.link)

following_peer : (now : ℕ) (item : List ℕ) (c : Meaning) (a : ClientSoFar) → (following now item c a).client.peer ≡ a.client.peer
unfolding following calling
following_peer now item meanings.Agrees a = posting_peer now _ (acted_on item a)
following_peer now item meanings.Starts a = refl
following_peer now item (meanings.Indicates indication) a = refl
following_peer now item meanings.Completes a = refl
following_peer now item meanings.Differs a = refl
following_peer now item meanings.Violates a = refl

acting_fate : (now : ℕ) (item : List ℕ) (a : ClientSoFar) → Fate item a (acting now item a)
unfolding acting
acting_fate now item a = following_fate now item _ a (item_tells a.client.peer a.client.stage (reading item))

pub acting_peer : (now : ℕ) (item : List ℕ) (a : ClientSoFar) → (acting now item a).client.peer ≡ a.client.peer
unfolding acting
acting_peer now item a = following_peer now item _ a

-- items acted on one after another
record Acted (items : List (List ℕ)) (before after : ClientSoFar) : Type 0 where
  pub done : List (List ℕ)
  pub acted : after.acted ≡ before.acted ++ done
  pub dropped : List (List ℕ)
  pub beginning : items ≡ done ++ dropped
  pub whole : is_open after.client.link.phase ≡ true → dropped ≡ []
  pub heard : after.heard ≡ before.heard ++ told_by_all before.client.peer done

acted_none : (items : List (List ℕ)) (a : ClientSoFar) → (is_open a.client.link.phase ≡ true → items ≡ []) → Acted items a a
unfolding told_by_all
acted_none items a whole = record { done = []; acted = sym (append-nil a.acted); dropped = items; beginning = refl; whole = whole; heard = sym (append-nil a.heard) }

closed_rests : (now : ℕ) (items : List (List ℕ)) (a : ClientSoFar) → is_open a.client.link.phase ≡ false → acting_all now items a ≡ a
unfolding acting_all
closed_rests now [] a closed = refl
closed_rests now (item ∷ others) a closed = rw closed refl

acts_more : (now : ℕ) (item : List ℕ) (others : List (List ℕ)) (a b : ClientSoFar) → b.client.peer ≡ a.client.peer → Fate item a b → Acted others b (acting_all now others b) →
    Acted (item ∷ others) a (acting_all now others b)
unfolding told_by_all
acts_more now item others a b peer (obeyed acted heard) more = record {
  done = item ∷ more.done;
  acted = more.acted ∙ ap (λ xs. xs ++ more.done) acted ∙ append_assoc a.acted (item ∷ []) more.done;
  dropped = more.dropped;
  beginning = ap (λ rest. item ∷ rest) more.beginning;
  whole = more.whole;
  heard = more.heard ∙ ap (λ (p : PeerState). b.heard ++ told_by_all p more.done) peer
      ∙ ap (λ hs. hs ++ told_by_all a.client.peer more.done) heard ∙ append_assoc a.heard (told_by a.client.peer (reading item)) (told_by_all a.client.peer more.done);
}
acts_more now item others a b peer (refused acted heard closed) more =
    let rests : acting_all now others b ≡ b = closed_rests now others b closed
    in record {
      done = [];
      acted = ap (λ (p : ClientSoFar). p.acted) rests ∙ acted ∙ sym (append-nil a.acted);
      dropped = item ∷ others;
      beginning = refl;
      whole = λ opened. absurd (true≢false (sym opened ∙ ap (λ (p : ClientSoFar). is_open p.client.link.phase) rests ∙ closed));
      heard = ap (λ (p : ClientSoFar). p.heard) rests ∙ heard ∙ sym (append-nil a.heard);
    }

acting_all_acts : (now : ℕ) (items : List (List ℕ)) (a : ClientSoFar) → Acted items a (acting_all now items a)
unfolding acting_all
acting_all_acts now [] a = acted_none [] a (λ opened. refl)
acting_all_acts now (item ∷ others) a = cases (is_open a.client.link.phase) refl (acting_all_acts now others (acting now item a)) where
  cases : (b : Bool) → is_open a.client.link.phase ≡ b → Acted others (acting now item a) (acting_all now others (acting now item a)) →
      Acted (item ∷ others) a (if b then acting_all now others (acting now item a) else a)
  cases true is more = acts_more now item others a (acting now item a) (acting_peer now item a) (acting_fate now item a) more
  cases false is more = acted_none (item ∷ others) a (λ opened. absurd (true≢false (sym opened ∙ is)))

rising_acted : (now : ℕ) (a : ClientSoFar) → (rising now a).acted ≡ a.acted
unfolding rising
rising_acted now a = cases (is_outside a.client.stage && is_up a.client.link.phase) where
  cases : (b : Bool) → (if b then at_stage stage.AwaitsAnswer (saying now (VersionCheck a.client.peer.version) a) else a).acted ≡ a.acted
  cases true = posting_acted now _ a
  cases false = refl

rising_heard : (now : ℕ) (a : ClientSoFar) → (rising now a).heard ≡ a.heard
unfolding rising
rising_heard now a = cases (is_outside a.client.stage && is_up a.client.link.phase) where
  cases : (b : Bool) → (if b then at_stage stage.AwaitsAnswer (saying now (VersionCheck a.client.peer.version) a) else a).heard ≡ a.heard
  cases true = posting_heard now _ a
  cases false = refl

rising_peer : (now : ℕ) (a : ClientSoFar) → (rising now a).client.peer ≡ a.client.peer
unfolding rising
rising_peer now a = cases (is_outside a.client.stage && is_up a.client.link.phase) where
  cases : (b : Bool) → (if b then at_stage stage.AwaitsAnswer (saying now (VersionCheck a.client.peer.version) a) else a).client.peer ≡ a.client.peer
  cases true = posting_peer now _ a
  cases false = refl

pub hearing_acts : (now : ℕ) (bytes : List ℕ) (a : ClientSoFar) → ActsOn now bytes a (hearing now bytes a)
unfolding hearing calling
hearing_acts now bytes a =
    let received : ClientSoFar = calling now (Receives bytes) a
    in let risen : ClientSoFar = rising now received
    in let items = (receiving now bytes a.client.link).items
    in let done = acting_all_acts now items risen
    in record {
      items = done.done;
      acted = done.acted ∙ ap (λ xs. xs ++ done.done) (rising_acted now received);
      dropped = done.dropped;
      beginning = done.beginning;
      whole = λ opened. done.whole (sym (ap (λ (l : LinkState). is_open l.phase) (fallen_link (acting_all now items risen).client)) ∙ opened);
      heard = done.heard ∙ ap (λ hs. hs ++ told_by_all risen.client.peer done.done) (rising_heard now received) ∙ ap (λ (p : PeerState). a.heard ++ told_by_all p done.done) (rising_peer now received);
    }
