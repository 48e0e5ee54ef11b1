-- What becomes of an item.
use Rattle.std.proofs.Common.{inl, inr, ◌≡◌, ℕ, true, List, [], ◌∷◌, ◌++◌, length, length-append, arith, refl, ap, sym, ◌∙◌, subst}
use Rattle.std.specs.Prelude.{◌&&◌, ◌==◌, ◌-◌, Option, Some, None, Result, Ok, Err}
use Rattle.std.specs.Str.{bytes_eq}
use Rattle.std.proofs.lemmas.Bool.{false≢true, eqb-true}
use Rattle.std.proofs.lemmas.Slice.Eq.{bytes_eq-Decides}
use Rattle.sci_telegram.specs.Messages.{protocol_of}
use Rattle.sci_telegram.specs.TelegramRead.{reading}
use Rattle.sci_telegram.specs.declared.fault.SciFault.{SciFault}
use Rattle.sci_telegram.specs.declared.message.Agreement.{Agreement}
use Rattle.sci_telegram.specs.declared.message.Agreement.TheVariants.{Match, NoMatch}
use Rattle.sci_telegram.specs.declared.message.Initialisation.{Initialisation}
use Rattle.sci_telegram.specs.declared.message.Initialisation.TheVariants.{InitialisationRequest, StartInitialisation, InitialisationCompleted, VersionCheck, VersionAnswer}
use Rattle.sci_telegram.specs.declared.message.Message.{Message}
use Rattle.sci_telegram.specs.declared.message.Message.TheVariants as message
use Rattle.sci_telegram.specs.declared.message.Protocol.{Protocol}
use Rattle.sci_telegram.specs.declared.telegram.Telegram.{Telegram}
use Rattle.rasta_core.specs.Calls.{answer_to_send}
use Rattle.rasta_core.specs.reason.Reason.TheVariants as reason
use Rattle.ixl_client.specs.Client.{PeerState}
use Rattle.ixl_client.specs.Meaning.{meaning, meaning_of, initial_meaning, is_for_client, is_in_turn, is_in_version, is_match, is_same_protocol, is_status, place_of, report_meaning, state_in}
use Rattle.ixl_client.specs.ClientSoFar.{Closes, ClientSoFar, calling}
use Rattle.ixl_client.specs.Step.{acted_on, acting, meaning_of_item, following, is_refused_by_window, posting}
use Rattle.ixl_client.specs.declared.indication.ObjectState.{ObjectState}
use Rattle.ixl_client.specs.declared.stage.Stage.{Stage}
use Rattle.ixl_client.specs.declared.stage.Stage.TheVariants as stage
use Rattle.ixl_client.specs.LinkClosed.{ClosesWith, Fate}
use Rattle.ixl_client.specs.ExpectedTelegrams.{IsExpected, IsExpectedAt, IsForClient, Tells, TellsState, TellsStatus}
use Rattle.ixl_client.proofs.LinkClosed.{closes_with}
use Rattle.ixl_client.proofs.PickedByTest.{both, either, picked}

-- what became of an item, and that it was expected if it was acted on
data Outcome (now : ℕ) (item : List ℕ) (before after : ClientSoFar) (expected : Type 0) : Type 0 where
  obeyed : after.acted ≡ before.acted ++ item ∷ [] → expected → Outcome now item before after expected
  violates : ClosesWith now reason.State before after → Outcome now item before after expected
  differs : before.client.stage ≡ stage.AwaitsAnswer → ClosesWith now reason.Version before after → Outcome now item before after expected

posting_acted : (now : ℕ) (told : Message) (a : ClientSoFar) → (posting now told a).acted ≡ a.acted
unfolding posting calling
posting_acted now told a = either (λ (p : ClientSoFar). p.acted ≡ a.acted) (is_refused_by_window (answer_to_send now a.client.link)) _ _ refl refl

violation : (now : ℕ) (item : List ℕ) (a b : ClientSoFar) (expected : Type 0) → b ≡ calling now (Closes reason.State) a → Outcome now item a b expected
violation now item a b expected is = violates (closes_with now reason.State a b is)

match_is : (agreement : Agreement) → is_match agreement ≡ true → agreement ≡ Match
match_is Match is = refl
match_is NoMatch is = absurd (false≢true is)

agrees : (peer : PeerState) (telegram : Telegram) (protocol : Protocol) (agreement : Agreement) (version : ℕ) →
    telegram.message ≡ message.Initialisation protocol (VersionAnswer agreement version) → telegram.sender ≡ peer.name →
    is_match agreement && version == peer.version ≡ true → Tells peer telegram (VersionAnswer Match peer.version)
agrees peer telegram protocol agreement version is from test =
    let parts = both (is_match agreement) (version == peer.version) test
    in record {
      protocol = protocol;
      message = is ∙ ap (λ a. message.Initialisation protocol (VersionAnswer a version)) (match_is agreement parts.0)
          ∙ ap (λ v. message.Initialisation protocol (VersionAnswer Match v)) (eqb-true version peer.version parts.1);
      sender = from;
    }

Comes : ℕ → List ℕ → ClientSoFar → ClientSoFar → Stage → Telegram → Type 0
Comes now item a b s telegram = Outcome now item a b (IsExpectedAt a.client.peer s telegram)

answer_comes : (now : ℕ) (item : List ℕ) (a : ClientSoFar) (telegram : Telegram) (protocol : Protocol) (agreement : Agreement) (version : ℕ) → a.client.stage ≡ stage.AwaitsAnswer →
    telegram.message ≡ message.Initialisation protocol (VersionAnswer agreement version) → telegram.sender ≡ a.client.peer.name →
    Comes now item a (following now item (initial_meaning a.client.peer (VersionAnswer agreement version) stage.AwaitsAnswer) a) stage.AwaitsAnswer telegram
unfolding following Comes
answer_comes now item a telegram protocol agreement version at is from =
    picked (λ c. Outcome now item a (following now item c a) (IsExpectedAt a.client.peer stage.AwaitsAnswer telegram)) (is_match agreement && version == a.client.peer.version) _ _
    (λ test. obeyed (posting_acted now _ (acted_on item a)) (agrees a.client.peer telegram protocol agreement version is from test))
    (λ test. differs at (closes_with now reason.Version a _ refl))

completed_comes : (now left : ℕ) (item : List ℕ) (a : ClientSoFar) (telegram : Telegram) (protocol : Protocol) →
    telegram.message ≡ message.Initialisation protocol InitialisationCompleted → telegram.sender ≡ a.client.peer.name →
    Comes now item a (following now item (initial_meaning a.client.peer InitialisationCompleted (stage.AwaitsStatus left)) a) (stage.AwaitsStatus left) telegram
unfolding following Comes
completed_comes now left item a telegram protocol is from =
    picked (λ c. Outcome now item a (following now item c a) (IsExpectedAt a.client.peer (stage.AwaitsStatus left) telegram)) (left == 0) _ _
    (λ test. obeyed refl (inr (eqb-true left 0 test, record { protocol = protocol; message = is; sender = from })))
    (λ test. violation now item a _ _ refl)

initial_comes : (now : ℕ) (item : List ℕ) (a : ClientSoFar) (telegram : Telegram) (protocol : Protocol) (initialisation : Initialisation) (s : Stage) → a.client.stage ≡ s →
    telegram.message ≡ message.Initialisation protocol initialisation → telegram.sender ≡ a.client.peer.name →
    Comes now item a (following now item (initial_meaning a.client.peer initialisation s) a) s telegram
unfolding following Comes
initial_comes now item a telegram protocol (VersionAnswer agreement version) stage.AwaitsAnswer at is from = answer_comes now item a telegram protocol agreement version at is from
initial_comes now item a telegram protocol StartInitialisation stage.AwaitsStart at is from = obeyed refl (record { protocol = protocol; message = is; sender = from })
initial_comes now item a telegram protocol InitialisationCompleted (stage.AwaitsStatus left) at is from = completed_comes now left item a telegram protocol is from
initial_comes now item a telegram protocol InitialisationRequest stage.Outside at is from = violation now item a _ _ refl
initial_comes now item a telegram protocol InitialisationRequest stage.AwaitsAnswer at is from = violation now item a _ _ refl
initial_comes now item a telegram protocol InitialisationRequest stage.AwaitsStart at is from = violation now item a _ _ refl
initial_comes now item a telegram protocol InitialisationRequest (stage.AwaitsStatus left) at is from = violation now item a _ _ refl
initial_comes now item a telegram protocol InitialisationRequest stage.Completed at is from = violation now item a _ _ refl
initial_comes now item a telegram protocol InitialisationRequest stage.AwaitsReport at is from = violation now item a _ _ refl
initial_comes now item a telegram protocol StartInitialisation stage.Outside at is from = violation now item a _ _ refl
initial_comes now item a telegram protocol StartInitialisation stage.AwaitsAnswer at is from = violation now item a _ _ refl
initial_comes now item a telegram protocol StartInitialisation (stage.AwaitsStatus left) at is from = violation now item a _ _ refl
initial_comes now item a telegram protocol StartInitialisation stage.Completed at is from = violation now item a _ _ refl
initial_comes now item a telegram protocol StartInitialisation stage.AwaitsReport at is from = violation now item a _ _ refl
initial_comes now item a telegram protocol InitialisationCompleted stage.Outside at is from = violation now item a _ _ refl
initial_comes now item a telegram protocol InitialisationCompleted stage.AwaitsAnswer at is from = violation now item a _ _ refl
initial_comes now item a telegram protocol InitialisationCompleted stage.AwaitsStart at is from = violation now item a _ _ refl
initial_comes now item a telegram protocol InitialisationCompleted stage.Completed at is from = violation now item a _ _ refl
initial_comes now item a telegram protocol InitialisationCompleted stage.AwaitsReport at is from = violation now item a _ _ refl
initial_comes now item a telegram protocol (VersionCheck version) stage.Outside at is from = violation now item a _ _ refl
initial_comes now item a telegram protocol (VersionCheck version) stage.AwaitsAnswer at is from = violation now item a _ _ refl
initial_comes now item a telegram protocol (VersionCheck version) stage.AwaitsStart at is from = violation now item a _ _ refl
initial_comes now item a telegram protocol (VersionCheck version) (stage.AwaitsStatus left) at is from = violation now item a _ _ refl
initial_comes now item a telegram protocol (VersionCheck version) stage.Completed at is from = violation now item a _ _ refl
initial_comes now item a telegram protocol (VersionCheck version) stage.AwaitsReport at is from = violation now item a _ _ refl
initial_comes now item a telegram protocol (VersionAnswer agreement version) stage.Outside at is from = violation now item a _ _ refl
initial_comes now item a telegram protocol (VersionAnswer agreement version) stage.AwaitsStart at is from = violation now item a _ _ refl
initial_comes now item a telegram protocol (VersionAnswer agreement version) (stage.AwaitsStatus left) at is from = violation now item a _ _ refl
initial_comes now item a telegram protocol (VersionAnswer agreement version) stage.Completed at is from = violation now item a _ _ refl
initial_comes now item a telegram protocol (VersionAnswer agreement version) stage.AwaitsReport at is from = violation now item a _ _ refl

turn_expected : (peer : PeerState) (telegram : Telegram) (place : ℕ) (state : ObjectState) (s : Stage) → place_of peer telegram.sender ≡ Some place → state_in telegram.message ≡ Some state →
    is_in_version peer.version state ≡ true → is_in_turn peer place state s ≡ true → IsExpectedAt peer s telegram
turn_expected peer telegram place state s of told version turn = by_stage s turn where
  tells : TellsState peer telegram place
  tells = record { state = state; of = of; told = told; version = version }

  by_stage : (t : Stage) → is_in_turn peer place state t ≡ true → IsExpectedAt peer t telegram
  by_stage stage.Outside is = absurd (false≢true is)
  by_stage stage.AwaitsAnswer is = absurd (false≢true is)
  by_stage stage.AwaitsStart is = absurd (false≢true is)
  by_stage (stage.AwaitsStatus left) is =
      let parts = both (place == length peer.objects - left) (is_status state) is
      in inl (subst (TellsStatus peer telegram) (eqb-true place (length peer.objects - left) parts.0) (tells, parts.1))
  by_stage stage.Completed is = ((place, tells), is)
  by_stage stage.AwaitsReport is = (place, tells)

report_comes : (now : ℕ) (item : List ℕ) (a : ClientSoFar) (telegram : Telegram) (place : Option ℕ) (state : Option ObjectState) →
    place_of a.client.peer telegram.sender ≡ place → state_in telegram.message ≡ state →
    Comes now item a (following now item (report_meaning a.client.peer place state a.client.stage) a) a.client.stage telegram
unfolding following Comes
report_comes now item a telegram None state of told = violation now item a _ _ refl
report_comes now item a telegram (Some place) None of told = violation now item a _ _ refl
report_comes now item a telegram (Some place) (Some state) of told =
    picked (λ c. Outcome now item a (following now item c a) (IsExpectedAt a.client.peer a.client.stage telegram))
    (is_in_turn a.client.peer place state a.client.stage && is_in_version a.client.peer.version state) _ _
    (λ test. let parts = both (is_in_turn a.client.peer place state a.client.stage) (is_in_version a.client.peer.version state) test
    in obeyed refl (turn_expected a.client.peer telegram place state a.client.stage of told parts.1 parts.0))
    (λ test. violation now item a _ _ refl)

meaning_comes : (now : ℕ) (item : List ℕ) (a : ClientSoFar) (telegram : Telegram) (told : Message) → telegram.message ≡ told →
    Comes now item a (following now item (meaning_of a.client.peer telegram.sender told a.client.stage) a) a.client.stage telegram
unfolding following Comes
meaning_comes now item a telegram (message.Initialisation protocol initialisation) is =
    picked (λ c. Outcome now item a (following now item c a) (IsExpectedAt a.client.peer a.client.stage telegram)) (bytes_eq telegram.sender a.client.peer.name) _ _
    (λ test. initial_comes now item a telegram protocol initialisation a.client.stage refl is ((bytes_eq-Decides telegram.sender a.client.peer.name).0 test))
    (λ test. violation now item a _ _ refl)
meaning_comes now item a telegram (message.Point told) is = report_comes now item a telegram _ _ refl (ap state_in is)
meaning_comes now item a telegram (message.Signal told) is = report_comes now item a telegram _ _ refl (ap state_in is)
meaning_comes now item a telegram (message.Detection told) is = report_comes now item a telegram _ _ refl (ap state_in is)

weaker : (now : ℕ) (item : List ℕ) (a b : ClientSoFar) (one other : Type 0) → (one → other) → Outcome now item a b one → Outcome now item a b other
weaker now item a b one other there (obeyed acted is) = obeyed acted (there is)
weaker now item a b one other there (violates closes) = violates closes
weaker now item a b one other there (differs at closes) = differs at closes

item_comes : (now : ℕ) (item : List ℕ) (a : ClientSoFar) (read : Result Telegram SciFault) →
    Outcome now item a (following now item (meaning_of_item a.client.peer a.client.stage read) a) (IsExpected a.client.peer a.client.stage read)
unfolding meaning following Comes
item_comes now item a (Err fault) = violation now item a _ _ refl
item_comes now item a (Ok telegram) =
    picked (λ c. Outcome now item a (following now item c a) (IsForClient a.client.peer telegram × IsExpectedAt a.client.peer a.client.stage telegram)) (is_for_client a.client.peer telegram) _ _
    (λ test. let parts = both (is_same_protocol (protocol_of telegram.message) a.client.peer.protocol) (bytes_eq telegram.receiver a.client.peer.own_name) test
    in let for_client : IsForClient a.client.peer telegram = record { protocol = parts.0; receiver = (bytes_eq-Decides telegram.receiver a.client.peer.own_name).0 parts.1 }
    in weaker now item a _ _ _ (λ is. (for_client, is)) (meaning_comes now item a telegram telegram.message refl))
    (λ test. violation now item a _ _ refl)

acting_comes : (now : ℕ) (item : List ℕ) (a : ClientSoFar) → Outcome now item a (acting now item a) (IsExpected a.client.peer a.client.stage (reading item))
unfolding acting
acting_comes now item a = item_comes now item a (reading item)

pub items_have_fates : (now : ℕ) (item : List ℕ) (a : ClientSoFar) → Fate now item a (acting now item a)
items_have_fates now item a = cases (acting_comes now item a) where
  cases : Outcome now item a (acting now item a) (IsExpected a.client.peer a.client.stage (reading item)) → Fate now item a (acting now item a)
  cases (obeyed acted is) = inl acted
  cases (violates closes) = inr (inl closes)
  cases (differs at closes) = inr (inr (at, closes))

none_longer : (items : List (List ℕ)) (item : List ℕ) → items ≡ items ++ item ∷ [] → ⊥
none_longer items item is = absurd (omega (arith, ap length is, length-append items (item ∷ [])))

pub expected_alone : (now : ℕ) (item : List ℕ) (a : ClientSoFar) → (acting now item a).acted ≡ a.acted ++ item ∷ [] → IsExpected a.client.peer a.client.stage (reading item)
expected_alone now item a acted = cases (acting_comes now item a) where
  cases : Outcome now item a (acting now item a) (IsExpected a.client.peer a.client.stage (reading item)) → IsExpected a.client.peer a.client.stage (reading item)
  cases (obeyed more is) = is
  cases (violates closes) = absurd (none_longer a.acted item (sym closes.acted ∙ acted))
  cases (differs at closes) = absurd (none_longer a.acted item (sym closes.acted ∙ acted))
