-- What a point's client hears in a step, counted by the stage of its connection.
use Rattle.std.proofs.Common.{◌≡◌, ℕ, ◌+◌, ◌<◌, zero, suc, Bool, true, false, if◌then◌else◌, List, [], ◌∷◌, ◌++◌, append_assoc, append-nil, length, length-append, arith, refl, ap, sym, ◌∙◌, subst}
use Rattle.std.specs.Prelude.{◌&&◌, ◌==◌, ◌-◌}
use Rattle.std.proofs.lemmas.Bool.{eqb-true, false≢true, true≢false}
use Rattle.ixl_state.specs.sci_telegram.declared.message.Initialisation.{Initialisation}
use Rattle.ixl_state.specs.sci_telegram.declared.message.Initialisation.TheVariants.{InitialisationRequest, VersionCheck}
use Rattle.ixl_state.specs.sci_telegram.declared.message.Message.{Message}
use Rattle.ixl_state.specs.sci_telegram.declared.message.Side.{Side}
use Rattle.ixl_state.specs.rasta_core.Calls.{answer_to_send, receiving}
use Rattle.ixl_state.specs.rasta_core.State.{is_open, is_up}
use Rattle.ixl_state.specs.ixl_client.Client.{ClientState, PeerState, is_outside}
use Rattle.ixl_state.specs.ixl_client.Meaning.{is_in_turn, is_status, reports_changes}
use Rattle.ixl_state.specs.ixl_client.ClientSoFar.{ClientSoFar, Receives, calling}
use Rattle.ixl_state.specs.ixl_client.Step.{acted_on, acting, acting_all, at_stage, ending, fallen, hearing, is_refused_by_window, posting, rising, saying, stage_after_report}
use Rattle.ixl_state.specs.ixl_client.declared.indication.Indication.{Indication}
use Rattle.ixl_state.specs.ixl_client.declared.indication.ObjectState.{ObjectState}
use Rattle.ixl_state.specs.ixl_client.declared.stage.Stage.{Stage}
use Rattle.ixl_state.specs.ixl_client.declared.stage.Stage.TheVariants as stage
use Rattle.ixl_laws.specs.Answered.{IsCounted, IsOfPoint, states_of}
use Rattle.ixl_laws.proofs.Courses.{acts}
use Rattle.ixl_laws.proofs.PickedByTest.{both, either}

-- as the definition counts; and outside nothing was given or told
abbrev pub Counts : Stage → List Side → List ObjectState → Type 0
Counts stage.Outside moves told = (moves ≡ []) × (told ≡ [])
Counts stage.AwaitsAnswer moves told = (moves ≡ []) × (told ≡ [])
Counts stage.AwaitsStart moves told = (moves ≡ []) × (told ≡ [])
Counts (stage.AwaitsStatus left) moves told = (moves ≡ []) × (length told + left ≡ 1)
Counts stage.Completed moves told = length told ≡ length moves + 1
Counts stage.AwaitsReport moves told = length told ≡ length moves

pub counts_inside : (s : Stage) (moves : List Side) (told : List ObjectState) → Counts s moves told → IsCounted s moves told
counts_inside stage.Outside moves told is = tt
counts_inside stage.AwaitsAnswer moves told is = is
counts_inside stage.AwaitsStart moves told is = is
counts_inside (stage.AwaitsStatus left) moves told is = is
counts_inside stage.Completed moves told is = is
counts_inside stage.AwaitsReport moves told is = is

pub counts_within : (s : Stage) (moves : List Side) (told : List ObjectState) → is_outside s ≡ false → IsCounted s moves told → Counts s moves told
counts_within stage.Outside moves told inside is = absurd (true≢false inside)
counts_within stage.AwaitsAnswer moves told inside is = is
counts_within stage.AwaitsStart moves told inside is = is
counts_within (stage.AwaitsStatus left) moves told inside is = is
counts_within stage.Completed moves told inside is = is
counts_within stage.AwaitsReport moves told inside is = is

pub nothing_outside : (s : Stage) → is_outside s ≡ true → Counts s [] []
nothing_outside stage.Outside is = (refl, refl)
nothing_outside stage.AwaitsAnswer is = absurd (false≢true is)
nothing_outside stage.AwaitsStart is = absurd (false≢true is)
nothing_outside (stage.AwaitsStatus left) is = absurd (false≢true is)
nothing_outside stage.Completed is = absurd (false≢true is)
nothing_outside stage.AwaitsReport is = absurd (false≢true is)

outside_asks : (s : Stage) (moves : List Side) (told : List ObjectState) → is_outside s ≡ true → Counts s moves told → Counts stage.AwaitsAnswer moves told
outside_asks stage.Outside moves told out is = is
outside_asks stage.AwaitsAnswer moves told out is = is
outside_asks stage.AwaitsStart moves told out is = is
outside_asks (stage.AwaitsStatus left) moves told out is = absurd (false≢true out)
outside_asks stage.Completed moves told out is = absurd (false≢true out)
outside_asks stage.AwaitsReport moves told out is = absurd (false≢true out)

pub states_joined : (some more : List Indication) → states_of (some ++ more) ≡ states_of some ++ states_of more
states_joined [] more = refl
states_joined (first ∷ others) more = ap (λ states. first.state ∷ states) (states_joined others more)

-- ---- one part of a step

-- from one part of a step to the next these states are heard, and are counted
record Hears (a b : ClientSoFar) : Type 0 where
  new : List Indication
  heard : b.heard ≡ a.heard ++ new
  peer : b.client.peer ≡ a.client.peer
  counts : IsOfPoint a.client.peer → (moves : List Side) (told : List ObjectState) → Counts a.client.stage moves told → Counts b.client.stage moves (told ++ states_of new)

hears_nothing : (a b : ClientSoFar) → b.heard ≡ a.heard → b.client.peer ≡ a.client.peer →
    ((moves : List Side) (told : List ObjectState) → IsOfPoint a.client.peer → Counts a.client.stage moves told → Counts b.client.stage moves told) → Hears a b
hears_nothing a b heard peer stays = record {
  new = [];
  heard = heard ∙ sym (append-nil a.heard);
  peer = peer;
  counts = λ of moves told is. subst (Counts b.client.stage moves) (sym (append-nil told)) (stays moves told of is);
}

hears_same : (a b : ClientSoFar) → b.heard ≡ a.heard → b.client.peer ≡ a.client.peer → b.client.stage ≡ a.client.stage → Hears a b
hears_same a b heard peer same = hears_nothing a b heard peer (λ moves told of is. subst (λ s. Counts s moves told) (sym same) is)

hears_then : (a b c : ClientSoFar) → Hears a b → Hears b c → Hears a c
hears_then a b c one next = record {
  new = one.new ++ next.new;
  heard = next.heard ∙ ap (λ heard. heard ++ next.new) one.heard ∙ append_assoc a.heard one.new next.new;
  peer = next.peer ∙ one.peer;
  counts = λ of moves told is. subst (Counts c.client.stage moves)
      (append_assoc told (states_of one.new) (states_of next.new) ∙ ap (λ states. told ++ states) (sym (states_joined one.new next.new)))
      (next.counts (subst IsOfPoint (sym one.peer) of) moves (told ++ states_of one.new) (one.counts of moves told is));
}

-- what is posted changes the link alone
pub record Posts (a b : ClientSoFar) : Type 0 where
  pub heard : b.heard ≡ a.heard
  pub acted : b.acted ≡ a.acted
  pub peer : b.client.peer ≡ a.client.peer
  pub stage : b.client.stage ≡ a.client.stage

pub posting_posts : (now : ℕ) (told : Message) (a : ClientSoFar) → Posts a (posting now told a)
unfolding posting calling
posting_posts now told a = either (Posts a) (is_refused_by_window (answer_to_send now a.client.link)) _ _
    (record { heard = refl; acted = refl; peer = refl; stage = refl }) (record { heard = refl; acted = refl; peer = refl; stage = refl })

rising_hears : (now : ℕ) (a : ClientSoFar) → Hears a (rising now a)
unfolding rising
rising_hears now a = by_stage (is_outside a.client.stage) refl where
  check : Initialisation
  check = VersionCheck a.client.peer.version

  asked : Posts a (saying now check a)
  asked = posting_posts now _ a

  by_link : (b : Bool) → is_outside a.client.stage ≡ true → Hears a (if b then at_stage stage.AwaitsAnswer (saying now check a) else a)
  by_link true out = hears_nothing a (at_stage stage.AwaitsAnswer (saying now check a)) asked.heard asked.peer (λ moves told of is. outside_asks a.client.stage moves told out is)
  by_link false out = hears_same a a refl refl refl

  by_stage : (b : Bool) → is_outside a.client.stage ≡ b → Hears a (if b && is_up a.client.link.phase then at_stage stage.AwaitsAnswer (saying now check a) else a)
  by_stage true out = by_link (is_up a.client.link.phase) out
  by_stage false out = hears_same a a refl refl refl

-- a report in its turn
turn_counts : (peer : PeerState) (place : ℕ) (state : ObjectState) (s : Stage) (moves : List Side) (told : List ObjectState) → IsOfPoint peer → place < length peer.objects →
    is_in_turn peer place state s ≡ true → Counts s moves told → Counts (stage_after_report s) moves (told ++ state ∷ [])
turn_counts peer place state stage.Outside moves told of within turn is = absurd (false≢true turn)
turn_counts peer place state stage.AwaitsAnswer moves told of within turn is = absurd (false≢true turn)
turn_counts peer place state stage.AwaitsStart moves told of within turn is = absurd (false≢true turn)
turn_counts peer place state (stage.AwaitsStatus zero) moves told of within turn is =
    let here = eqb-true place (length peer.objects - 0) (both (place == length peer.objects - 0) (is_status state) turn).0 ∙ ap (λ n. n - 0) of.one
    in absurd (omega (arith, here, within, of.one))
turn_counts peer place state (stage.AwaitsStatus (suc left)) moves told of within turn is = (is.0, omega (arith, is.1, length-append told (state ∷ [])))
turn_counts peer place state stage.Completed moves told of within turn is = absurd (false≢true (sym (ap reports_changes of.protocol) ∙ turn))
turn_counts peer place state stage.AwaitsReport moves told of within turn is = omega (arith, is, length-append told (state ∷ []))

acting_hears : (now : ℕ) (item : List ℕ) (a : ClientSoFar) → Hears a (acting now item a)
unfolding calling
acting_hears now item a = acts now item a (Hears a) a.client.peer a.client.stage agrees starts indicates completes (λ why. hears_same a _ refl refl refl) refl refl where
  asked : Posts (acted_on item a) (saying now InitialisationRequest (acted_on item a))
  asked = posting_posts now _ (acted_on item a)

  agrees : a.client.stage ≡ stage.AwaitsAnswer → Hears a (at_stage stage.AwaitsStart (saying now InitialisationRequest (acted_on item a)))
  agrees at = hears_nothing a _ asked.heard asked.peer (λ moves told of is. subst (λ s. Counts s moves told) at is)

  starts : a.client.stage ≡ stage.AwaitsStart → Hears a (at_stage (stage.AwaitsStatus (length a.client.peer.objects)) (acted_on item a))
  starts at = hears_nothing a _ refl refl (λ moves told of is.
      let none = subst (λ s. Counts s moves told) at is
      in (none.0, omega (arith, of.one, ap length none.1)))

  indicates : (told : Indication) → told.place < length a.client.peer.objects → is_in_turn a.client.peer told.place told.state a.client.stage ≡ true →
      Hears a (at_stage (stage_after_report a.client.stage) (record (acted_on item a) { heard = a.heard ++ told ∷ [] }))
  indicates one within turn = record {
    new = one ∷ [];
    heard = refl;
    peer = refl;
    counts = λ of moves told is. turn_counts a.client.peer one.place one.state a.client.stage moves told of within turn is;
  }

  completes : a.client.stage ≡ stage.AwaitsStatus 0 → Hears a (at_stage stage.Completed (acted_on item a))
  completes at = hears_nothing a _ refl refl (λ moves told of is.
      let one = subst (λ s. Counts s moves told) at is
      in omega (arith, one.1, ap length one.0))

all_heard : (now : ℕ) (items : List (List ℕ)) (a : ClientSoFar) → Hears a (acting_all now items a)
unfolding acting_all
all_heard now [] a = hears_same a a refl refl refl
all_heard now (item ∷ others) a = cases (is_open a.client.link.phase) (all_heard now others (acting now item a)) where
  cases : (b : Bool) → Hears (acting now item a) (acting_all now others (acting now item a)) → Hears a (if b then acting_all now others (acting now item a) else a)
  cases true more = hears_then a (acting now item a) (acting_all now others (acting now item a)) (acting_hears now item a) more
  cases false more = hears_same a a refl refl refl

-- ---- the end of a step

pub inside_stays : (client : ClientState) → is_outside (fallen client).stage ≡ false → (fallen client).stage ≡ client.stage
unfolding fallen
inside_stays client = cases (is_up client.link.phase) where
  cases : (b : Bool) → is_outside (if b then client else record client { stage = stage.Outside }).stage ≡ false → (if b then client else record client { stage = stage.Outside }).stage ≡ client.stage
  cases true inside = refl
  cases false inside = absurd (true≢false inside)

pub fallen_peer : (client : ClientState) → (fallen client).peer ≡ client.peer
unfolding fallen
fallen_peer client = either (λ (c : ClientState). c.peer ≡ client.peer) (is_up client.link.phase) _ _ refl refl

-- what a step that began with this hears
pub record HearsBehind (a b : ClientSoFar) : Type 0 where
  pub new : List Indication
  pub heard : b.heard ≡ a.heard ++ new
  pub peer : b.client.peer ≡ a.client.peer
  pub counts : is_outside b.client.stage ≡ false → IsOfPoint a.client.peer → (moves : List Side) (told : List ObjectState) → Counts a.client.stage moves told → Counts b.client.stage moves (told ++ states_of new)

ended_hears : (a b : ClientSoFar) → Hears a b → HearsBehind a (ending b)
ended_hears a b hears = record {
  new = hears.new;
  heard = hears.heard;
  peer = fallen_peer b.client ∙ hears.peer;
  counts = λ inside of moves told is. subst (λ s. Counts s moves (told ++ states_of hears.new)) (sym (inside_stays b.client inside)) (hears.counts of moves told is);
}

pub hearing_hears : (now : ℕ) (bytes : List ℕ) (a : ClientSoFar) → HearsBehind a (hearing now bytes a)
unfolding hearing calling
hearing_hears now bytes a =
    let received : ClientSoFar = calling now (Receives bytes) a
    in let items = (receiving now bytes a.client.link).items
    in let risen : ClientSoFar = rising now received
    in let done : ClientSoFar = acting_all now items risen
    in ended_hears a done (hears_then a received done (hears_same a received refl refl refl)
    (hears_then received risen done (rising_hears now received) (all_heard now items risen)))
