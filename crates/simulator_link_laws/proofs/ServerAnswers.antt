-- A server outside answers what it takes, and says nothing where it takes nothing.
use Rattle.std.proofs.Common.{◌≡◌, ℕ, ◌+◌, Bool, true, false, ◌&&◌, not, nat_le, nat_lt, List, [], ◌∷◌, ◌++◌, Some, None, Result, Ok, Err, refl, sym, ap, ◌∙◌, if◌then◌else◌}
use Rattle.std.specs.Prelude.{◌==◌, nat_eq}
use Rattle.std.specs.Cmp.Lexicographic.{pointwise}
use Rattle.std.proofs.lemmas.Bool.{true≢false, false≢true}
use Rattle.simulator_spec.specs.rasta_core.Calls.{hearing_bytes, receiving}
use Rattle.simulator_spec.specs.rasta_core.Clock.{deadline, open_state, settled, state_at}
use Rattle.simulator_spec.specs.rasta_core.Ends.{Call, EndState, Ticks, Opens, Closes, Sends, Receives, is_taken, outcome, reading_of}
use Rattle.simulator_spec.specs.rasta_core.Establishment.{beginning, granting, judging, meeting, own_opening}
use Rattle.simulator_spec.specs.rasta_core.Parameters.{connection_limit, own_version, quiet_time, window_size}
use Rattle.simulator_spec.specs.rasta_core.Receipt.{Receipt, accepting, by_state, hearing, refusing, resting}
use Rattle.simulator_spec.specs.rasta_core.PdusHandedOut.{Step, entered, limited, sending, silent, telling}
use Rattle.simulator_spec.specs.rasta_core.State.{LinkState, is_client, is_open}
use Rattle.simulator_spec.specs.rasta_core.Steps.{EnterNone, all_made, enters_by, made_by}
use Rattle.simulator_spec.specs.rasta_core.phase.State.TheVariants as state
use Rattle.simulator_spec.specs.rasta_core.reason.Reason.TheVariants as reason
use Rattle.simulator_spec.specs.rasta_core.verdict.Verdict.TheVariants as verdict
use Rattle.simulator_spec.specs.rasta_pdu.PduRead.{reading}
use Rattle.simulator_spec.specs.rasta_pdu.declared.body.Body.{Body}
use Rattle.simulator_spec.specs.rasta_pdu.declared.body.Body.TheVariants.{ConnectionRequest, ConnectionResponse, RetransmissionRequest, RetransmissionResponse, DisconnectionRequest, Heartbeat, Data, RetransmittedData}
use Rattle.simulator_spec.specs.rasta_pdu.declared.body.Opening.{Opening}
use Rattle.simulator_spec.specs.rasta_pdu.declared.fault.PduFault.{PduFault}
use Rattle.simulator_spec.specs.rasta_pdu.declared.pdu.Pdu.{Pdu}
use Rattle.simulator_spec.specs.Controllers.{is_some_sent}
use Rattle.simulator_link_laws.proofs.Laws.{CallLaws}
use Rattle.simulator_link_laws.proofs.Lists.{by_test}
use Rattle.simulator_link_laws.proofs.Settled.{settled_shut}

-- ---- what is taken is answered

-- where a PDU was taken something is handed out
abbrev Answers : Receipt → Type 0
Answers receipt = is_taken receipt.verdict ≡ true → is_some_sent receipt.pdus ≡ true

abbrev Says : Step → Type 0
Says step = is_some_sent step.pdus ≡ true

judging_says : (opening : Opening) (agreed : LinkState → Step) (link : LinkState) → Says (agreed link) → Says (judging opening agreed link)
unfolding judging telling sending
judging_says opening agreed link says =
    by_test Says (pointwise nat_eq opening.version own_version) (if opening.window == window_size then agreed link else telling reason.Window link) (telling reason.Version link) (λ e.
    by_test Says (opening.window == window_size) (agreed link) (telling reason.Window link) (λ f. says) (λ f. refl))
    (λ e. refl)

granting_says : (pdu : Pdu) (opening : Opening) (link : LinkState) → Says (granting pdu opening link)
unfolding granting sending
granting_says pdu opening link = judging_says opening (sending (ConnectionResponse own_opening)) (meeting pdu (beginning link)) refl

resting_answers : (body : Body) (pdu : Pdu) (link : LinkState) → Answers (resting body pdu link)
unfolding resting
resting_answers (ConnectionRequest opening) pdu link =
    by_test Answers (is_client link.identity.role) (refusing verdict.WrongState link) (accepting (granting pdu opening link)) (λ e taken. absurd (false≢true taken)) (λ e taken. granting_says pdu opening link)
resting_answers (ConnectionResponse opening) pdu link = λ taken. absurd (false≢true taken)
resting_answers RetransmissionRequest pdu link = λ taken. absurd (false≢true taken)
resting_answers RetransmissionResponse pdu link = λ taken. absurd (false≢true taken)
resting_answers (DisconnectionRequest detail why) pdu link = λ taken. absurd (false≢true taken)
resting_answers Heartbeat pdu link = λ taken. absurd (false≢true taken)
resting_answers (Data items) pdu link = λ taken. absurd (false≢true taken)
resting_answers (RetransmittedData items) pdu link = λ taken. absurd (false≢true taken)

quiet_answers : (pdu : Pdu) (link : LinkState) → Answers (by_state state.Quiet pdu link)
unfolding by_state
quiet_answers pdu link taken = absurd (false≢true taken)

down_answers : (pdu : Pdu) (link : LinkState) → Answers (by_state state.Down pdu link)
unfolding by_state
down_answers pdu link = resting_answers pdu.body pdu link

shut_answers : (pdu : Pdu) (link : LinkState) → is_open link.phase ≡ false → Answers (by_state (state_at link.clock link) pdu link)
unfolding state_at
shut_answers pdu link shut =
    by_test (λ s. Answers (by_state s pdu link)) (is_open link.phase && nat_lt link.clock (deadline link)) (open_state link.phase) _ (λ e. absurd (clash (is_open link.phase) _ e shut)) (λ e.
    by_test (λ s. Answers (by_state s pdu link)) (nat_lt link.clock (deadline link + quiet_time)) state.Quiet state.Down (λ f. quiet_answers pdu link) (λ f. down_answers pdu link))
  where
    clash : (a b : Bool) → a && b ≡ true → a ≡ false → ⊥
    clash true b e f = true≢false f
    clash false b e f = false≢true e

hearing_answers : (pdu : Pdu) (link : LinkState) → is_open link.phase ≡ false → Answers (hearing pdu link)
unfolding hearing
hearing_answers pdu link shut =
    by_test Answers (not (pdu.receiver == link.identity.own)) (refusing verdict.NotForMe link) _ (λ e taken. absurd (false≢true taken)) (λ e.
    by_test Answers (not (pdu.sender == link.identity.partner)) (refusing verdict.WrongSender link) (by_state (state_at link.clock link) pdu link) (λ f taken. absurd (false≢true taken)) (λ f.
    shut_answers pdu link shut))

bytes_answer : (found : Result Pdu PduFault) (link : LinkState) → is_open link.phase ≡ false → Answers (hearing_bytes found link)
unfolding hearing_bytes
bytes_answer (Ok pdu) link shut = hearing_answers pdu link shut
bytes_answer (Err fault) link shut = λ taken. absurd (false≢true taken)

some_joined : {A : Type 0} (first rest : List A) → is_some_sent rest ≡ true → is_some_sent (first ++ rest) ≡ true
some_joined [] rest some = some
some_joined (one ∷ others) rest some = refl

pub some_first : {A : Type 0} (first rest : List A) → is_some_sent first ≡ true → is_some_sent (first ++ rest) ≡ true
some_first [] rest some = absurd (false≢true some)
some_first (one ∷ others) rest some = refl

limited_shut : (link : LinkState) → is_open link.phase ≡ false → is_open (limited link).link.phase ≡ false
unfolding limited telling
limited_shut link shut = by_test (λ (step : Step). is_open step.link.phase ≡ false) (is_open link.phase && nat_le connection_limit link.sent) (telling reason.Sequence link) (silent link) (λ e. refl) (λ e. shut)

entered_shut : (now : ℕ) (link : LinkState) → is_open link.phase ≡ false → is_open (entered now link).link.phase ≡ false
unfolding entered
entered_shut now link shut = limited_shut (settled now link) (ap (λ (l : LinkState). is_open l.phase) (settled_shut now link shut) ∙ shut)

-- a link outside that takes a datagram hands something out
pub taken_is_answered : (now : ℕ) (bytes : List ℕ) (link : LinkState) → is_open link.phase ≡ false → is_taken (receiving now bytes link).verdict ≡ true → is_some_sent (receiving now bytes link).pdus ≡ true
unfolding receiving
taken_is_answered now bytes link shut taken =
    some_joined (entered now link).pdus (hearing_bytes (reading link.identity.key bytes) (entered now link).link).pdus
    (bytes_answer (reading link.identity.key bytes) (entered now link).link (entered_shut now link shut) taken)

-- ---- a server outside that enters nothing

-- a call, with the moment and without
pub record IsMade (call : Call) (moment : ℕ) (end : EndState) : Type 0 where
  pub link : (outcome call moment end).link ≡ (made_by (reading_of end.clock) call end.link).link
  pub pdus : (outcome call moment end).pdus ≡ (made_by (reading_of end.clock) call end.link).pdus

pub is_made : (call : Call) (moment : ℕ) (end : EndState) → IsMade call moment end
unfolding outcome made_by
is_made Ticks moment end = record { link = refl; pdus = refl }
is_made Opens moment end = record { link = refl; pdus = refl }
is_made (Closes why) moment end = record { link = refl; pdus = refl }
is_made (Sends item) moment end = record { link = refl; pdus = refl }
is_made (Receives bytes connection) moment end = record { link = refl; pdus = refl }

no_number : (moment : ℕ) (test : Bool) → test ≡ false → (if test then Some moment else None) ≡ None
no_number moment true e = absurd (true≢false e)
no_number moment false e = refl

pub enters_none : (call : Call) (moment : ℕ) (end : EndState) → enters_by (reading_of end.clock) call end.link ≡ false → (outcome call moment end).enters ≡ None
unfolding outcome enters_by
enters_none Ticks moment end e = refl
enters_none Opens moment end e = no_number moment _ e
enters_none (Closes why) moment end e = refl
enters_none (Sends item) moment end e = refl
enters_none (Receives bytes connection) moment end e = no_number connection _ e

pub silent_outside : CallLaws → (calls : List Call) (end : EndState) → is_open end.link.phase ≡ false → EnterNone (reading_of end.clock) calls end.link → (all_made (reading_of end.clock) calls end.link).pdus ≡ []
unfolding all_made EnterNone
silent_outside laws [] end shut none = refl
silent_outside laws (call ∷ calls) end shut none =
    let same = is_made call 0 end
    in let enters = enters_none call 0 end none.0
    in let next : EndState = record end { link = (made_by (reading_of end.clock) call end.link).link }
    in ap (λ (pdus : List Pdu). pdus ++ (all_made (reading_of end.clock) calls next.link).pdus) (sym same.pdus ∙ (laws.nothing call 0 end shut enters).pdus)
    ∙ silent_outside laws calls next (sym (ap (λ (l : LinkState). is_open l.phase) same.link) ∙ laws.stays call 0 end shut enters) none.1
