-- What a client expects it acts on, and closes nothing.
use Rattle.simulator_recovery.proofs.Words.Basics.{◌≡◌, inl, inr, ℕ, ◌-◌, Bool, true, false, List, [], ◌∷◌, ◌++◌, append_assoc, append-nil, length, Option, Some, Result, Ok, Err, refl, sym, ap, subst, ◌∙◌, if◌then◌else◌, ◌==◌, ◌&&◌, bytes_eq, none-some, false≢true, bytes_eq-Decides}
use Rattle.simulator_recovery.proofs.Words.Links.{answer_to_send, Each, Reason}
use Rattle.simulator_recovery.proofs.Words.Controllers.{reading, writing, SciFault, Match, Initialisation, InitialisationCompleted, InitialisationRequest, StartInitialisation, VersionAnswer, Message, Telegram}
use Rattle.simulator_recovery.proofs.Words.Interlockings.{PeerState, ClientSoFar, Closes, LinkCall, Sends, calling, IsExpected, IsExpectedAt, IsForClient, Tells, TellsState, initial_meaning, is_for_client, is_in_turn, is_in_version, meaning, meaning_of, place_of, report_meaning, state_in, acted_on, acting, at_stage, following, is_refused_by_window, meaning_of_item, posting, saying, telegram_to, ObjectState, Stage}
use Rattle.simulator_recovery.proofs.Words.Recovery.{ClientActs, ClientGives}
use Rattle.simulator_recovery.proofs.Lemmas.Ground.DueTests.{same_true}

if_true : {M : Type 0} (b : Bool) (x y : M) → b ≡ true → (if b then x else y) ≡ x
if_true true x y e = refl
if_true false x y e = absurd (false≢true e)

at_true : {M : Type 0} (P : M → Type 0) (b : Bool) (x y : M) → b ≡ true → P x → P (if b then x else y)
at_true P true x y e so = so
at_true P false x y e so = absurd (false≢true e)

-- what is posted
record Posts (now : ℕ) (before after : ClientSoFar) : Type 0 where
  acted : after.acted ≡ before.acted
  more : List LinkCall
  calls : after.calls ≡ before.calls ++ more
  gives : is_refused_by_window (answer_to_send now before.client.link) ≡ false → Each ClientGives more

posts : (now : ℕ) (told : Message) (part : ClientSoFar) → Posts now part (posting now told part)
unfolding posting calling
posts now told part = choose (is_refused_by_window (answer_to_send now part.client.link)) refl
  where
    item : List ℕ
    item = writing (telegram_to part.client.peer told)

    sent : ClientSoFar
    sent = calling now (Sends item) part

    choose : (b : Bool) → is_refused_by_window (answer_to_send now part.client.link) ≡ b → Posts now part (if b then calling now (Closes Reason.Window) sent else sent)
    choose true e = record { acted = refl; more = Sends item ∷ Closes Reason.Window ∷ []; calls = append_assoc part.calls (Sends item ∷ []) (Closes Reason.Window ∷ []); gives = λ none. absurd (false≢true (sym none ∙ e)) }
    choose false e = record { acted = refl; more = Sends item ∷ []; calls = refl; gives = λ none. (tt, tt) }

module _ (now : ℕ) (item : List ℕ) (part : ClientSoFar) where
  abbrev Acts : ClientSoFar → Type 0
  Acts after = ClientActs now item part after

  agrees : Acts (at_stage Stage.AwaitsStart (saying now InitialisationRequest (acted_on item part)))
  agrees = let p = posts now (Message.Initialisation part.client.peer.protocol InitialisationRequest) (acted_on item part) in record { acted = p.acted; more = p.more; calls = p.calls; gives = p.gives }

  module _ (peer : PeerState) (telegram : Telegram) (is_for : IsForClient peer telegram) where
    for_client : is_for_client peer telegram ≡ true
    for_client = let receiver = (bytes_eq-Decides telegram.receiver peer.own_name).1 is_for.receiver in rw (is_for.protocol, receiver) refl

    -- a telegram of the initialisation
    tells_is : (told : Initialisation) (how_far : Stage) → Tells peer telegram told → meaning peer telegram how_far ≡ initial_meaning peer told how_far
    unfolding meaning
    tells_is told how_far tells = if_true (is_for_client peer telegram) _ _ for_client
        ∙ (ap (λ (m : Message). meaning_of peer telegram.sender m how_far) tells.message
        ∙ if_true (bytes_eq telegram.sender peer.name) _ _ ((bytes_eq-Decides telegram.sender peer.name).1 tells.sender))

    -- a report
    report_is : (told : Message) (state : ObjectState) (how_far : Stage) → state_in told ≡ Some state → meaning_of peer telegram.sender told how_far ≡ report_meaning peer (place_of peer telegram.sender) (state_in told) how_far
    report_is (Message.Initialisation protocol told) state how_far is = absurd (none-some state is)
    report_is (Message.Point told) state how_far is = refl
    report_is (Message.Signal told) state how_far is = refl
    report_is (Message.Detection told) state how_far is = refl

    state_is : (place : ℕ) (how_far : Stage) → (tells : TellsState peer telegram place) → meaning peer telegram how_far ≡ report_meaning peer (Some place) (Some tells.state) how_far
    unfolding meaning
    state_is place how_far tells = if_true (is_for_client peer telegram) _ _ for_client
        ∙ (report_is telegram.message tells.state how_far tells.told
        ∙ (ap (λ (o : Option ℕ). report_meaning peer o (state_in telegram.message) how_far) tells.of ∙ ap (λ (o : Option ObjectState). report_meaning peer (Some place) o how_far) tells.told))

    -- where it is in its turn, it is heard
    indicates : (place : ℕ) (how_far : Stage) (tells : TellsState peer telegram place) → is_in_turn peer place tells.state how_far ≡ true → Acts (following now item (meaning peer telegram how_far) part)
    unfolding following
    indicates place how_far tells turn = subst (λ what. Acts (following now item what part)) (sym (state_is place how_far tells))
        (at_true (λ what. Acts (following now item what part)) (is_in_turn peer place tells.state how_far && is_in_version peer.version tells.state) _ _ (let version = tells.version in rw (turn, version) refl)
        (record { acted = refl; more = []; calls = sym (append-nil part.calls); gives = λ none. tt }))

    expected : (how_far : Stage) → IsExpectedAt peer how_far telegram → Acts (following now item (meaning peer telegram how_far) part)
    unfolding following
    expected Stage.Outside is = absurd is
    expected Stage.AwaitsAnswer is = subst (λ what. Acts (following now item what part)) (sym (tells_is (VersionAnswer Match peer.version) Stage.AwaitsAnswer is))
        (at_true (λ what. Acts (following now item what part)) (peer.version == peer.version) _ _ (same_true peer.version) agrees)
    expected Stage.AwaitsStart is = subst (λ what. Acts (following now item what part)) (sym (tells_is StartInitialisation Stage.AwaitsStart is))
        (record { acted = refl; more = []; calls = sym (append-nil part.calls); gives = λ none. tt })
    expected (Stage.AwaitsStatus left) (inl (tells, status)) = indicates (length peer.objects - left) (Stage.AwaitsStatus left) tells (rw (same_true (length peer.objects - left), status) refl)
    expected (Stage.AwaitsStatus left) (inr (none_left, tells)) = subst (λ what. Acts (following now item what part)) (sym (tells_is InitialisationCompleted (Stage.AwaitsStatus left) tells))
        (at_true (λ what. Acts (following now item what part)) (left == 0) _ _ (ap (λ (n : ℕ). n == 0) none_left)
        (record { acted = refl; more = []; calls = sym (append-nil part.calls); gives = λ none. tt }))
    expected Stage.Completed ((place, tells), changes) = indicates place Stage.Completed tells changes
    expected Stage.AwaitsReport (place, tells) = indicates place Stage.AwaitsReport tells refl

  read_acts : (how_far : Stage) (read : Result Telegram SciFault) → IsExpected part.client.peer how_far read → Acts (following now item (meaning_of_item part.client.peer how_far read) part)
  read_acts how_far (Err fault) is = absurd is
  read_acts how_far (Ok telegram) (is_for, is) = expected part.client.peer telegram is_for how_far is

  pub client_acts : IsExpected part.client.peer part.client.stage (reading item) → Acts (acting now item part)
  unfolding acting
  client_acts is = read_acts part.client.stage (reading item) is
