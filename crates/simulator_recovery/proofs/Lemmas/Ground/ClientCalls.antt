-- What a client calls its link to: it receives what comes, and says something or closes the link; in a tick it ticks and opens.
use Rattle.simulator_recovery.proofs.Words.Basics.{◌≡◌, ℕ, Bool, true, false, List, [], ◌∷◌, ◌++◌, ◌&&◌, ◌==◌, Option, Some, None, Result, Ok, Err, refl, sym, ap, subst, ◌∙◌, if◌then◌else◌, bytes_eq}
use Rattle.simulator_recovery.proofs.Words.Links.{Each, answer_to_send, receiving, OutboxState, is_open, is_up, Reason}
use Rattle.simulator_recovery.proofs.Words.Controllers.{reading, writing, Initialisation, InitialisationCompleted, InitialisationRequest, StartInitialisation, VersionAnswer, VersionCheck, Message, Telegram, SciFault}
use Rattle.simulator_recovery.proofs.Words.Interlockings.{ClientState, PeerState, is_outside, ClientSoFar, LinkCall, Opens, Ticks, Closes, Sends, Receives, begun, calling, initial_meaning, is_for_client, is_in_turn, is_in_version, is_match, meaning, meaning_of, place_of, report_meaning, state_in, ObjectState, acting, acting_all, at_stage, commanding, following, hearing, is_refused_by_window, meaning_of_item, posting, rising, saying, telegram_to, ticking, Stage}
use Rattle.simulator_spec.specs.ixl_client.declared.command.Command.{Command}
use Rattle.simulator_recovery.proofs.Lemmas.Ground.EndCalls.{Grows, grows_by, grows_none, grows_then}

-- an item is given, or the link is closed
abbrev pub IsSaid : LinkCall → Type 0
IsSaid Opens = ⊥
IsSaid Ticks = ⊥
IsSaid (Closes why) = Unit {0}
IsSaid (Sends item) = Unit {0}
IsSaid (Receives bytes) = ⊥

abbrev Says : ClientSoFar → ClientSoFar → Type 0
Says old new = Grows IsSaid old.calls new.calls

says_then : (one two three : ClientSoFar) → Says one two → Says two three → Says one three
says_then one two three first second = grows_then IsSaid one.calls two.calls three.calls first second

calling_adds : (now : ℕ) (call : LinkCall) (part : ClientSoFar) → (calling now call part).calls ≡ part.calls ++ call ∷ []
unfolding calling
calling_adds now call part = refl

calling_says : (now : ℕ) (call : LinkCall) (part : ClientSoFar) → IsSaid call → Says part (calling now call part)
unfolding calling
calling_says now call part said = grows_by IsSaid part.calls (call ∷ []) (said, tt)

posting_says : (now : ℕ) (told : Message) (part : ClientSoFar) → Says part (posting now told part)
unfolding posting
posting_says now told part = choose (is_refused_by_window (answer_to_send now part.client.link))
  where
    sent : ClientSoFar
    sent = calling now (Sends (writing (telegram_to part.client.peer told))) part

    says_sent : Says part sent
    says_sent = calling_says now (Sends (writing (telegram_to part.client.peer told))) part tt

    choose : (b : Bool) → Says part (if b then calling now (Closes Reason.Window) sent else sent)
    choose true = says_then part sent (calling now (Closes Reason.Window) sent) says_sent (calling_says now (Closes Reason.Window) sent tt)
    choose false = says_sent

rising_says : (now : ℕ) (part : ClientSoFar) → Says part (rising now part)
unfolding rising
rising_says now part = choose (is_outside part.client.stage && is_up part.client.link.phase)
  where
    choose : (b : Bool) → Says part (if b then at_stage Stage.AwaitsAnswer (saying now (VersionCheck part.client.peer.version) part) else part)
    choose true = posting_says now _ part
    choose false = grows_none IsSaid part.calls

-- what holds either way
either : {M : Type 0} (P : M → Type 0) (b : Bool) (x y : M) → P x → P y → P (if b then x else y)
either P true x y one other = one
either P false x y one other = other

module _ (now : ℕ) (item : List ℕ) (part : ClientSoFar) where
  violating_says : Says part (calling now (Closes Reason.State) part)
  violating_says = calling_says now (Closes Reason.State) part tt

  differing_says : Says part (calling now (Closes Reason.Version) part)
  differing_says = calling_says now (Closes Reason.Version) part tt

  none_says : Says part part
  none_says = grows_none IsSaid part.calls

  -- the initialisation
  initial_says : (peer : PeerState) (told : Initialisation) (how_far : Stage) → Says part (following now item (initial_meaning peer told how_far) part)
  unfolding following
  initial_says peer (VersionAnswer agreement version) Stage.AwaitsAnswer = either (λ what. Says part (following now item what part)) (is_match agreement && version == peer.version) _ _ (posting_says now _ _) differing_says
  initial_says peer (VersionAnswer agreement version) Stage.Outside = violating_says
  initial_says peer (VersionAnswer agreement version) Stage.AwaitsStart = violating_says
  initial_says peer (VersionAnswer agreement version) (Stage.AwaitsStatus left) = violating_says
  initial_says peer (VersionAnswer agreement version) Stage.Completed = violating_says
  initial_says peer (VersionAnswer agreement version) Stage.AwaitsReport = violating_says
  initial_says peer StartInitialisation Stage.AwaitsStart = none_says
  initial_says peer StartInitialisation Stage.Outside = violating_says
  initial_says peer StartInitialisation Stage.AwaitsAnswer = violating_says
  initial_says peer StartInitialisation (Stage.AwaitsStatus left) = violating_says
  initial_says peer StartInitialisation Stage.Completed = violating_says
  initial_says peer StartInitialisation Stage.AwaitsReport = violating_says
  initial_says peer InitialisationCompleted (Stage.AwaitsStatus left) = either (λ what. Says part (following now item what part)) (left == 0) _ _ none_says violating_says
  initial_says peer InitialisationCompleted Stage.Outside = violating_says
  initial_says peer InitialisationCompleted Stage.AwaitsAnswer = violating_says
  initial_says peer InitialisationCompleted Stage.AwaitsStart = violating_says
  initial_says peer InitialisationCompleted Stage.Completed = violating_says
  initial_says peer InitialisationCompleted Stage.AwaitsReport = violating_says
  initial_says peer InitialisationRequest how_far = violating_says
  initial_says peer (VersionCheck version) how_far = violating_says

  -- a report
  report_says : (peer : PeerState) (place : Option ℕ) (state : Option ObjectState) (how_far : Stage) → Says part (following now item (report_meaning peer place state how_far) part)
  unfolding following
  report_says peer (Some place) (Some state) how_far = either (λ what. Says part (following now item what part)) (is_in_turn peer place state how_far && is_in_version peer.version state) _ _ none_says violating_says
  report_says peer (Some place) None how_far = violating_says
  report_says peer None (Some state) how_far = violating_says
  report_says peer None None how_far = violating_says

  told_says : (peer : PeerState) (sender : List ℕ) (told : Message) (how_far : Stage) → Says part (following now item (meaning_of peer sender told how_far) part)
  unfolding following
  told_says peer sender (Message.Initialisation protocol initialisation) how_far =
      either (λ what. Says part (following now item what part)) (bytes_eq sender peer.name) _ _ (initial_says peer initialisation how_far) violating_says
  told_says peer sender (Message.Point told) how_far = report_says peer (place_of peer sender) (state_in (Message.Point told)) how_far
  told_says peer sender (Message.Signal told) how_far = report_says peer (place_of peer sender) (state_in (Message.Signal told)) how_far
  told_says peer sender (Message.Detection told) how_far = report_says peer (place_of peer sender) (state_in (Message.Detection told)) how_far

  read_says : (peer : PeerState) (how_far : Stage) (read : Result Telegram SciFault) → Says part (following now item (meaning_of_item peer how_far read) part)
  unfolding following meaning
  read_says peer how_far (Ok telegram) = either (λ what. Says part (following now item what part)) (is_for_client peer telegram) _ _ (told_says peer telegram.sender telegram.message how_far) violating_says
  read_says peer how_far (Err fault) = violating_says

acting_says : (now : ℕ) (item : List ℕ) (part : ClientSoFar) → Says part (acting now item part)
unfolding acting
acting_says now item part = read_says now item part part.client.peer part.client.stage (reading item)

acting_all_says : (now : ℕ) (items : List (List ℕ)) (part : ClientSoFar) → Says part (acting_all now items part)
unfolding acting_all
acting_all_says now [] part = grows_none IsSaid part.calls
acting_all_says now (item ∷ others) part = choose (is_open part.client.link.phase)
    (says_then part (acting now item part) (acting_all now others (acting now item part)) (acting_says now item part) (acting_all_says now others (acting now item part)))
  where
    choose : (b : Bool) → Says part (acting_all now others (acting now item part)) → Says part (if b then acting_all now others (acting now item part) else part)
    choose true says = says
    choose false says = grows_none IsSaid part.calls

-- what comes is received first
pub hearing_calls : (now : ℕ) (bytes : List ℕ) (client : ClientState) (outbox : OutboxState) → (others : List LinkCall) × (Each IsSaid others × ((hearing now bytes (begun client outbox)).calls ≡ Receives bytes ∷ others))
unfolding hearing
hearing_calls now bytes client outbox = (says.more, (says.each, says.are ∙ ap (λ (calls : List LinkCall). calls ++ says.more) (calling_adds now (Receives bytes) (begun client outbox))))
  where
    received : ClientSoFar
    received = calling now (Receives bytes) (begun client outbox)

    items : List (List ℕ)
    items = (receiving now bytes client.link).items

    says : Says received (acting_all now items (rising now received))
    says = says_then received (rising now received) (acting_all now items (rising now received)) (rising_says now received) (acting_all_says now items (rising now received))

-- a command
pub commanding_calls : (now : ℕ) (command : Command) (client : ClientState) (outbox : OutboxState) → Each IsSaid (commanding now command (begun client outbox)).calls
unfolding commanding
commanding_calls now command client outbox = let says = posting_says now _ (begun client outbox) in subst (Each IsSaid) (sym says.are) says.each

-- a tick
pub ticking_calls : (now : ℕ) (client : ClientState) (outbox : OutboxState) → (ticking now (begun client outbox)).calls ≡ Ticks ∷ Opens ∷ []
unfolding ticking calling
ticking_calls now client outbox = refl
