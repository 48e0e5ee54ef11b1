-- After a tick no link is down.
use Rattle.std.proofs.Common.{◌≡◌, ℕ, zero, suc, ◌<◌, Bool, true, false, List, [], ◌∷◌, length, arith, refl, ap, sym, ◌∙◌, subst}
use Rattle.std.specs.Prelude.{◌==◌, Option, Some, None, slice_get}
use Rattle.std.proofs.lemmas.Bool.{eq-eqb, eqb-true, false≢true}
use Rattle.ixl_state.specs.rasta_core.State.{is_client}
use Rattle.ixl_state.specs.rasta_core.identity.Identity.{Identity}
use Rattle.ixl_state.specs.ixl_client.ClientSoFar as client
use Rattle.ixl_state.specs.ixl_client.ClientSoFar.{begun}
use Rattle.ixl_state.specs.ixl_client.Step.{ticking}
use Rattle.ixl_state.specs.ixl_client.LinkOpened.{IsNotDown}
use Rattle.ixl_state.specs.ixl_spec.StepSoFar.{Detector, StepSoFar, Point, Signal, detector_after, known_signal_after, noted, over, known_point_after, with_detector, with_known_signal, with_one, with_known_point}
use Rattle.ixl_state.specs.ixl_spec.State.{KnownDetectorState, KnownSignalState, KnownPointState, changed}
use Rattle.ixl_state.specs.ixl_spec.Step.{Tick, detector_ticking, known_signal_ticking, stepped, known_point_ticking, ticked}
use Rattle.ixl.specs.Interlocking.{HasStepped, InterlockingState}
use Rattle.ixl_state.specs.ixl_spec.Step.{Reply}
use Rattle.ixl_laws.specs.Links.{IsTended, NoneDown}
use Rattle.ixl_laws.proofs.Clients.{detector_client, known_signal_client, known_point_client}
use Rattle.ixl_laws.proofs.PickedByTest.{changed_elsewhere, changed_here, none_is}

-- what a tick of one client leaves
abbrev pub Ticks : ℕ → Type 0
Ticks now = (part : client.ClientSoFar) → is_client part.client.link.identity.role ≡ true → IsNotDown now (ticking now part).client.link

abbrev pub Keeps : ℕ → Type 0
Keeps now = (part : client.ClientSoFar) → (ticking now part).client.link.identity ≡ part.client.link.identity

tended : (now : ℕ) → Ticks now → Keeps now → (part : client.ClientSoFar) → IsTended now (ticking now part).client
tended now opens keeps part is = opens part (ap (λ (i : Identity). is_client i.role) (sym (keeps part)) ∙ is)

-- ---- one after another

-- what is so of each of a list once something was done with it, and stays so while it is done with the others
record Does {A : Type 0} (listed : StepSoFar → List A) (does : ℕ → StepSoFar → StepSoFar) (fact : A → Type 0) : Type 0 where
  here : (place : ℕ) (part : StepSoFar) (one : A) → slice_get (listed (does place part)) place ≡ Some one → fact one
  elsewhere : (place other : ℕ) (part : StepSoFar) → (other ≡ place → ⊥) → slice_get (listed (does place part)) other ≡ slice_get (listed part) other
  many : (place : ℕ) (part : StepSoFar) → length (listed (does place part)) ≡ length (listed part)

done_below : {A : Type 0} (listed : StepSoFar → List A) (does : ℕ → StepSoFar → StepSoFar) (fact : A → Type 0) → Does listed does fact → (n : ℕ) (part : StepSoFar) (place : ℕ) (one : A) → place < n →
    slice_get (listed (over does n part)) place ≡ Some one → fact one
done_below listed does fact each zero part place one below is = absurd (omega (arith, below))
done_below {A} listed does fact each (suc n) part place one below is =
    cases (place == n) refl (λ lower. done_below listed does fact each n part place one lower)
  where
    cases : (b : Bool) → place == n ≡ b → (place < n → slice_get (listed (over does n part)) place ≡ Some one → fact one) → fact one
    cases true same before = each.here n (over does n part) one (subst (λ p. slice_get (listed (does n (over does n part))) p ≡ Some one) (eqb-true place n same) is)
    cases false other before =
        let apart : place ≡ n → ⊥ = λ same. false≢true (sym other ∙ eq-eqb place n same)
        in before (grind (arith, apart, below)) (sym (each.elsewhere n place (over does n part) apart) ∙ is)

kept_many : {A : Type 0} (listed : StepSoFar → List A) (does : ℕ → StepSoFar → StepSoFar) (fact : A → Type 0) → Does listed does fact → (n : ℕ) (part : StepSoFar) → length (listed (over does n part)) ≡ length (listed part)
kept_many listed does fact each zero part = refl
kept_many listed does fact each (suc n) part = each.many n (over does n part) ∙ kept_many listed does fact each n part

within : {A : Type 0} (list : List A) (place : ℕ) (one : A) → slice_get list place ≡ Some one → place < length list
within [] place one is = absurd (none_is is)
within (first ∷ others) zero one is = omega arith
within (first ∷ others) (suc place) one is = omega (arith, within others place one is)

all_done : {A : Type 0} (listed : StepSoFar → List A) (does : ℕ → StepSoFar → StepSoFar) (fact : A → Type 0) → Does listed does fact → (part : StepSoFar) (place : ℕ) (one : A) →
    slice_get (listed (over does (length (listed part)) part)) place ≡ Some one → fact one
all_done listed does fact each part place one is =
    done_below listed does fact each (length (listed part)) part place one
    (subst (λ n. place < n) (kept_many listed does fact each (length (listed part)) part) (within _ place one is)) is

over_keeps : {A : Type 0} (read : StepSoFar → A) (does : ℕ → StepSoFar → StepSoFar) → ((place : ℕ) (part : StepSoFar) → read (does place part) ≡ read part) → (n : ℕ) (part : StepSoFar) → read (over does n part) ≡ read part
over_keeps read does each zero part = refl
over_keeps read does each (suc n) part = each n (over does n part) ∙ over_keeps read does each n part

changed_many : {A : Type 0} (change : A → A) (place : ℕ) (list : List A) → length (changed change place list) ≡ length list
changed_many change place [] = refl
changed_many change zero (first ∷ others) = refl
changed_many change (suc place) (first ∷ others) = ap suc (changed_many change place others)

-- ---- something is done at a place of a list

with_one_keeps : {A B : Type 0} (read : StepSoFar → B) (one : Option A) (does : A → StepSoFar → StepSoFar) (part : StepSoFar) → ((a : A) → read (does a part) ≡ read part) → read (with_one one does part) ≡ read part
with_one_keeps read None does part each = refl
with_one_keeps read (Some a) does part each = each a

-- where a list has something at a place it becomes this
Puts : {A : Type 0} (listed : StepSoFar → List A) (place : ℕ) (does : A → StepSoFar → StepSoFar) (fact : A → Type 0) → StepSoFar → Type 0
Puts {A} listed place does fact part = (a : A) → (new : A) × (listed (does a part) ≡ changed (λ old. new) place (listed part)) × fact new

puts_here : {A : Type 0} (listed : StepSoFar → List A) (place : ℕ) (does : A → StepSoFar → StepSoFar) (fact : A → Type 0) (part : StepSoFar) → Puts listed place does fact part →
    (kept : Option A) → slice_get (listed part) place ≡ kept → (one : A) → slice_get (listed (with_one kept does part)) place ≡ Some one → fact one
unfolding Puts
puts_here listed place does fact part puts None is one there = absurd (none_is (sym is ∙ there))
puts_here {A} listed place does fact part puts (Some a) is one there =
    let put = puts a
    in let found = changed_here (λ old. put.0) place (listed part) one (ap (λ list. slice_get list place) (sym put.1) ∙ there)
    in subst fact (sym found.2) put.2

puts_elsewhere : {A : Type 0} (listed : StepSoFar → List A) (place other : ℕ) (does : A → StepSoFar → StepSoFar) (fact : A → Type 0) (part : StepSoFar) → Puts listed place does fact part →
    (kept : Option A) → (other ≡ place → ⊥) → slice_get (listed (with_one kept does part)) other ≡ slice_get (listed part) other
unfolding Puts
puts_elsewhere listed place other does fact part puts None apart = refl
puts_elsewhere {A} listed place other does fact part puts (Some a) apart =
    ap (λ list. slice_get list other) (puts a).1 ∙ changed_elsewhere (λ old. (puts a).0) place other (listed part) apart

puts_many : {A : Type 0} (listed : StepSoFar → List A) (place : ℕ) (does : A → StepSoFar → StepSoFar) (fact : A → Type 0) (part : StepSoFar) → Puts listed place does fact part →
    (kept : Option A) → length (listed (with_one kept does part)) ≡ length (listed part)
unfolding Puts
puts_many listed place does fact part puts None = refl
puts_many {A} listed place does fact part puts (Some a) = ap length (puts a).1 ∙ changed_many (λ old. (puts a).0) place (listed part)

-- ---- the three kinds of controllers

known_signals_of : StepSoFar → List KnownSignalState
known_signals_of part = part.ixl.known_signals

known_points_of : StepSoFar → List KnownPointState
known_points_of part = part.ixl.known_points

detectors_of : StepSoFar → List KnownDetectorState
detectors_of part = part.ixl.detectors

-- what a tick does where there is such a controller
known_signal_ticked : ℕ → ℕ → KnownSignalState → StepSoFar → StepSoFar
known_signal_ticked now place known_signal part =
    let done = ticking now (begun known_signal.client part.outbox)
    in with_known_signal place (known_signal_after known_signal.aspect known_signal.number known_signal.indicated done.client) (noted (Signal place) done part)

known_signals_tick : (now : ℕ) → Ticks now → Keeps now → Does known_signals_of (known_signal_ticking now) (λ known_signal. IsTended now known_signal.client)
unfolding known_signal_ticking known_signals_of known_signal_ticked Puts
known_signals_tick now opens keeps = record {
  here = λ place part one is. puts_here known_signals_of place (known_signal_ticked now place) (λ (known_signal : KnownSignalState). IsTended now known_signal.client) part (puts place part) (slice_get part.ixl.known_signals place) refl one is;
  elsewhere = λ place other part apart. puts_elsewhere known_signals_of place other (known_signal_ticked now place) (λ (known_signal : KnownSignalState). IsTended now known_signal.client) part (puts place part) (slice_get part.ixl.known_signals place) apart;
  many = λ place part. puts_many known_signals_of place (known_signal_ticked now place) (λ (known_signal : KnownSignalState). IsTended now known_signal.client) part (puts place part) (slice_get part.ixl.known_signals place);
} where
  puts : (place : ℕ) (part : StepSoFar) (known_signal : KnownSignalState) → (new : KnownSignalState) × (known_signals_of (known_signal_ticked now place known_signal part) ≡ changed (λ old. new) place (known_signals_of part)) × IsTended now new.client
  puts place part known_signal = (
    known_signal_after known_signal.aspect known_signal.number known_signal.indicated (ticking now (begun known_signal.client part.outbox)).client,
    refl,
    subst (IsTended now) (sym (known_signal_client known_signal.aspect known_signal.number known_signal.indicated _)) (tended now opens keeps (begun known_signal.client part.outbox)),
  )

-- what a tick does where there is such a controller
known_point_ticked : ℕ → ℕ → KnownPointState → StepSoFar → StepSoFar
known_point_ticked now place known_point part =
    let done = ticking now (begun known_point.client part.outbox)
    in with_known_point place (known_point_after known_point.side known_point.moved done.client) (noted (Point place) done part)

known_points_tick : (now : ℕ) → Ticks now → Keeps now → Does known_points_of (known_point_ticking now) (λ known_point. IsTended now known_point.client)
unfolding known_point_ticking known_points_of known_point_ticked Puts
known_points_tick now opens keeps = record {
  here = λ place part one is. puts_here known_points_of place (known_point_ticked now place) (λ (known_point : KnownPointState). IsTended now known_point.client) part (puts place part) (slice_get part.ixl.known_points place) refl one is;
  elsewhere = λ place other part apart. puts_elsewhere known_points_of place other (known_point_ticked now place) (λ (known_point : KnownPointState). IsTended now known_point.client) part (puts place part) (slice_get part.ixl.known_points place) apart;
  many = λ place part. puts_many known_points_of place (known_point_ticked now place) (λ (known_point : KnownPointState). IsTended now known_point.client) part (puts place part) (slice_get part.ixl.known_points place);
} where
  puts : (place : ℕ) (part : StepSoFar) (known_point : KnownPointState) → (new : KnownPointState) × (known_points_of (known_point_ticked now place known_point part) ≡ changed (λ old. new) place (known_points_of part)) × IsTended now new.client
  puts place part known_point = (
    known_point_after known_point.side known_point.moved (ticking now (begun known_point.client part.outbox)).client,
    refl,
    subst (IsTended now) (sym (known_point_client known_point.side known_point.moved _)) (tended now opens keeps (begun known_point.client part.outbox)),
  )

-- what a tick does where there is such a controller
detector_ticked : ℕ → ℕ → KnownDetectorState → StepSoFar → StepSoFar
detector_ticked now place detector part =
    let done = ticking now (begun detector.client part.outbox)
    in with_detector place (detector_after detector.occupied done.client) (noted (Detector place) done part)

detectors_tick : (now : ℕ) → Ticks now → Keeps now → Does detectors_of (detector_ticking now) (λ detector. IsTended now detector.client)
unfolding detector_ticking detectors_of detector_ticked Puts
detectors_tick now opens keeps = record {
  here = λ place part one is. puts_here detectors_of place (detector_ticked now place) (λ (detector : KnownDetectorState). IsTended now detector.client) part (puts place part) (slice_get part.ixl.detectors place) refl one is;
  elsewhere = λ place other part apart. puts_elsewhere detectors_of place other (detector_ticked now place) (λ (detector : KnownDetectorState). IsTended now detector.client) part (puts place part) (slice_get part.ixl.detectors place) apart;
  many = λ place part. puts_many detectors_of place (detector_ticked now place) (λ (detector : KnownDetectorState). IsTended now detector.client) part (puts place part) (slice_get part.ixl.detectors place);
} where
  puts : (place : ℕ) (part : StepSoFar) (detector : KnownDetectorState) → (new : KnownDetectorState) × (detectors_of (detector_ticked now place detector part) ≡ changed (λ old. new) place (detectors_of part)) × IsTended now new.client
  puts place part detector = (
    detector_after detector.occupied (ticking now (begun detector.client part.outbox)).client,
    refl,
    subst (IsTended now) (sym (detector_client detector.occupied _)) (tended now opens keeps (begun detector.client part.outbox)),
  )

-- ---- a tick

points_keep_known_signals : (now : ℕ) (place : ℕ) (part : StepSoFar) → known_signals_of (known_point_ticking now place part) ≡ known_signals_of part
unfolding known_point_ticking known_signals_of
points_keep_known_signals now place part = with_one_keeps (λ (p : StepSoFar). p.ixl.known_signals) (slice_get part.ixl.known_points place) _ part (λ known_point. refl)

detectors_keep_known_signals : (now : ℕ) (place : ℕ) (part : StepSoFar) → known_signals_of (detector_ticking now place part) ≡ known_signals_of part
unfolding detector_ticking known_signals_of
detectors_keep_known_signals now place part = with_one_keeps (λ (p : StepSoFar). p.ixl.known_signals) (slice_get part.ixl.detectors place) _ part (λ detector. refl)

detectors_keep_points : (now : ℕ) (place : ℕ) (part : StepSoFar) → known_points_of (detector_ticking now place part) ≡ known_points_of part
unfolding detector_ticking known_points_of
detectors_keep_points now place part = with_one_keeps (λ (p : StepSoFar). p.ixl.known_points) (slice_get part.ixl.detectors place) _ part (λ detector. refl)

known_signals_keep_points : (now : ℕ) (place : ℕ) (part : StepSoFar) → known_points_of (known_signal_ticking now place part) ≡ known_points_of part
unfolding known_signal_ticking known_points_of
known_signals_keep_points now place part = with_one_keeps (λ (p : StepSoFar). p.ixl.known_points) (slice_get part.ixl.known_signals place) _ part (λ known_signal. refl)

known_signals_keep_detectors : (now : ℕ) (place : ℕ) (part : StepSoFar) → detectors_of (known_signal_ticking now place part) ≡ detectors_of part
unfolding known_signal_ticking detectors_of
known_signals_keep_detectors now place part = with_one_keeps (λ (p : StepSoFar). p.ixl.detectors) (slice_get part.ixl.known_signals place) _ part (λ known_signal. refl)

points_keep_detectors : (now : ℕ) (place : ℕ) (part : StepSoFar) → detectors_of (known_point_ticking now place part) ≡ detectors_of part
unfolding known_point_ticking detectors_of
points_keep_detectors now place part = with_one_keeps (λ (p : StepSoFar). p.ixl.detectors) (slice_get part.ixl.known_points place) _ part (λ known_point. refl)

tick_tends : (now : ℕ) → Ticks now → Keeps now → (part : StepSoFar) → NoneDown now (ticked now Tick part).ixl
unfolding ticked known_signals_of known_points_of detectors_of
tick_tends now opens keeps part = record {
  signals = λ place known_signal is. all_done known_signals_of (known_signal_ticking now) (λ (l : KnownSignalState). IsTended now l.client) (known_signals_tick now opens keeps) part place known_signal
      (ap (λ list. slice_get list place) (sym (over_keeps known_signals_of (detector_ticking now) (detectors_keep_known_signals now) many_detectors points
      ∙ over_keeps known_signals_of (known_point_ticking now) (points_keep_known_signals now) many_points known_signals)) ∙ is);
  points = λ place known_point is. all_done known_points_of (known_point_ticking now) (λ (s : KnownPointState). IsTended now s.client) (known_points_tick now opens keeps) known_signals place known_point
      (subst (λ n. slice_get (known_points_of (over (known_point_ticking now) n known_signals)) place ≡ Some known_point) (ap length (sym (over_keeps known_points_of (known_signal_ticking now) (known_signals_keep_points now) many_known_signals part)))
      (ap (λ list. slice_get list place) (sym (over_keeps known_points_of (detector_ticking now) (detectors_keep_points now) many_detectors points)) ∙ is));
  detectors = λ place detector is. all_done detectors_of (detector_ticking now) (λ (d : KnownDetectorState). IsTended now d.client) (detectors_tick now opens keeps) points place detector
      (subst (λ n. slice_get (detectors_of (over (detector_ticking now) n points)) place ≡ Some detector) (ap length (sym (over_keeps detectors_of (known_point_ticking now) (points_keep_detectors now) many_points known_signals
      ∙ over_keeps detectors_of (known_signal_ticking now) (known_signals_keep_detectors now) many_known_signals part))) is);
} where
  many_known_signals : ℕ
  many_known_signals = length part.ixl.known_signals

  many_points : ℕ
  many_points = length part.ixl.known_points

  many_detectors : ℕ
  many_detectors = length part.ixl.detectors

  known_signals : StepSoFar
  known_signals = over (known_signal_ticking now) many_known_signals part

  points : StepSoFar
  points = over (known_point_ticking now) many_points known_signals

pub none_down : (now : ℕ) (old new : InterlockingState) (answer : Reply) → Ticks now → Keeps now → HasStepped now Tick old new answer → NoneDown now new.state.ixl
unfolding stepped
none_down now old new answer opens keeps step = subst (NoneDown now) (sym step.ixl) (tick_tends now opens keeps _)
