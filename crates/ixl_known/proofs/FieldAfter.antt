-- What a turn of one node leaves of the field.
use Rattle.std.proofs.Common.{◌≡◌, ℕ, ◌+◌, ◌<◌, List, length, get_or, slice_set, arith, refl, ap, sym, ◌∙◌, subst}
use Rattle.std.specs.Prelude.{◌*◌, IfSome, Some, slice_get}
use Rattle.std.proofs.lemmas.List.{length-set}
use Rattle.std.proofs.lemmas.List.Elements.{All-set}
use Rattle.std.proofs.lemmas.Option.{slice_get_read}
use Rattle.ixl_spec.specs.rasta_core.Outbox.{OutboxState}
use Rattle.ixl_spec.specs.rasta_core.identity.Identity.{Identity}
use Rattle.ixl_spec.specs.rasta_pdu.declared.key.Key.{Key}
use Rattle.ixl_spec.specs.StepSoFar.{Leads, StepSoFar, over}
use Rattle.ixl_spec.specs.Step.{Tick, detector_ticking, known_signal_ticking, known_point_ticking, ticked}
use Rattle.ixl_spec.specs.State.{KnownDetectorState, KnownSignalState, KnownPointState}
use Rattle.ixl_known.specs.Nodes.{DetectorGoes, KnownSignalGoes, KnownPointGoes}
use Rattle.ixl_known.specs.Field.{AllAt, FieldGoes, FieldState, Rest, kept}
use Rattle.ixl_known.proofs.NodeEffects.{Comes, leads_at, part_at}
use Rattle.ixl_known.specs.inside.Turns.{DetectorsTurned, KnownSignalsTurned, KnownPointsTurned, with_detectors, with_known_signals, with_known_points}

pub nothing_done : (now most : ℕ) (does : StepSoFar → StepSoFar) (rest : Rest) (old : FieldState) (box : OutboxState) → AllAt now old → Leads does (kept old rest) box (kept old rest) box →
    FieldGoes now most does rest old box old box
nothing_done now most does rest old box at leads = record { leads = leads; reporters = refl; known_signals = refl; known_points = refl; detectors = refl; clock = at; keys = λ key under. under; capacity = refl; few = omega arith }

pub field_in : (now most : ℕ) (does : StepSoFar → StepSoFar) (rest : Rest) (inside old : FieldState) (box : OutboxState) (new : FieldState) (out : OutboxState) → inside ≡ old →
    FieldGoes now most does rest inside box new out → FieldGoes now most does rest old box new out
field_in now most does rest inside old box new out is goes = subst (λ (o : FieldState). FieldGoes now most does rest o box new out) is goes

pub known_signal_field : (now most : ℕ) (does : StepSoFar → StepSoFar) (each : KnownSignalState → OutboxState → KnownSignalState × OutboxState) (rest : Rest) (old : FieldState) (box : OutboxState) (signal : ℕ) (one new : KnownSignalState) (out : OutboxState) →
    AllAt now old → signal < length old.known_signals → one ≡ get_or old.known_signals signal one → KnownSignalGoes now most each one box new out →
    (slice_get old.known_signals signal ≡ Some one → new ≡ (each one box).0 → out ≡ (each one box).1 → Leads does (kept old rest) box (with_known_signals (slice_set old.known_signals signal new) (kept old rest)) out) →
    FieldGoes now most does rest old box (record old { known_signals = slice_set old.known_signals signal new }) out
known_signal_field now most does each rest old box signal one new out at within is goes turn = record {
  leads = turn (slice_get_read old.known_signals (length old.known_signals) signal one refl within is) goes.node goes.outbox;
  reporters = refl;
  known_signals = length-set old.known_signals signal new;
  known_points = refl;
  detectors = refl;
  clock = record { known_signals = All-set (λ (l : KnownSignalState). l.client.link.clock ≡ now) old.known_signals signal new goes.clock at.known_signals; known_points = at.known_points; detectors = at.detectors };
  keys = λ key under. record { known_signals = All-set (Under key) old.known_signals signal new (ap (λ (i : Identity). i.key) goes.identity ∙ subst (Under key) (sym is) (under.known_signals signal one within)) under.known_signals; known_points = under.known_points; detectors = under.detectors };
  capacity = goes.capacity;
  few = goes.few;
}
  where
    Under : Key → KnownSignalState → Type 0
    Under key l = l.client.link.identity.key ≡ key

pub known_point_field : (now most : ℕ) (does : StepSoFar → StepSoFar) (each : KnownPointState → OutboxState → KnownPointState × OutboxState) (rest : Rest) (old : FieldState) (box : OutboxState) (point : ℕ) (one new : KnownPointState) (out : OutboxState) →
    AllAt now old → point < length old.known_points → one ≡ get_or old.known_points point one → KnownPointGoes now most each one box new out →
    (slice_get old.known_points point ≡ Some one → new ≡ (each one box).0 → out ≡ (each one box).1 → Leads does (kept old rest) box (with_known_points (slice_set old.known_points point new) (kept old rest)) out) →
    FieldGoes now most does rest old box (record old { known_points = slice_set old.known_points point new }) out
known_point_field now most does each rest old box point one new out at within is goes turn = record {
  leads = turn (slice_get_read old.known_points (length old.known_points) point one refl within is) goes.node goes.outbox;
  reporters = refl;
  known_signals = refl;
  known_points = length-set old.known_points point new;
  detectors = refl;
  clock = record { known_signals = at.known_signals; known_points = All-set (λ (s : KnownPointState). s.client.link.clock ≡ now) old.known_points point new goes.clock at.known_points; detectors = at.detectors };
  keys = λ key under. record { known_signals = under.known_signals; known_points = All-set (Under key) old.known_points point new (ap (λ (i : Identity). i.key) goes.identity ∙ subst (Under key) (sym is) (under.known_points point one within)) under.known_points; detectors = under.detectors };
  capacity = goes.capacity;
  few = goes.few;
}
  where
    Under : Key → KnownPointState → Type 0
    Under key s = s.client.link.identity.key ≡ key

pub detector_field : (now most : ℕ) (does : StepSoFar → StepSoFar) (each : KnownDetectorState → OutboxState → KnownDetectorState × OutboxState) (rest : Rest) (old : FieldState) (box : OutboxState) (place : ℕ) (one new : KnownDetectorState) (out : OutboxState) →
    AllAt now old → place < length old.detectors → one ≡ get_or old.detectors place one → DetectorGoes now most each one box new out →
    (slice_get old.detectors place ≡ Some one → new ≡ (each one box).0 → out ≡ (each one box).1 → Leads does (kept old rest) box (with_detectors (slice_set old.detectors place new) (kept old rest)) out) →
    FieldGoes now most does rest old box (record old { detectors = slice_set old.detectors place new }) out
detector_field now most does each rest old box place one new out at within is goes turn = record {
  leads = turn (slice_get_read old.detectors (length old.detectors) place one refl within is) goes.node goes.outbox;
  reporters = refl;
  known_signals = refl;
  known_points = refl;
  detectors = length-set old.detectors place new;
  clock = record { known_signals = at.known_signals; known_points = at.known_points; detectors = All-set (λ (d : KnownDetectorState). d.client.link.clock ≡ now) old.detectors place new goes.clock at.detectors };
  keys = λ key under. record { known_signals = under.known_signals; known_points = under.known_points; detectors = All-set (Under key) old.detectors place new (ap (λ (i : Identity). i.key) goes.identity ∙ subst (Under key) (sym is) (under.detectors place one within)) under.detectors };
  capacity = goes.capacity;
  few = goes.few;
}
  where
    Under : Key → KnownDetectorState → Type 0
    Under key d = d.client.link.identity.key ≡ key

pub at_inside : (now : ℕ) (inside old : FieldState) → inside ≡ old → AllAt now old → AllAt now inside
at_inside now inside old same at = subst (AllAt now) (sym same) at

-- ---- what is there

pub known_signal_there : (inside old : FieldState) (place : ℕ) (one : KnownSignalState) (fact : KnownSignalState → Type 0) → inside ≡ old → place < length old.known_signals → one ≡ get_or inside.known_signals place one → fact one →
    IfSome (slice_get old.known_signals place) fact
known_signal_there inside old place one fact same within is holds =
    subst (λ (f : FieldState). place < length f.known_signals → IfSome (slice_get f.known_signals place) fact) same
    (λ here. subst (λ found. IfSome found fact) (sym (slice_get_read inside.known_signals (length inside.known_signals) place one refl here is)) holds) within

pub known_point_there : (inside old : FieldState) (place : ℕ) (one : KnownPointState) (fact : KnownPointState → Type 0) → inside ≡ old → place < length old.known_points → one ≡ get_or inside.known_points place one → fact one →
    IfSome (slice_get old.known_points place) fact
known_point_there inside old place one fact same within is holds =
    subst (λ (f : FieldState). place < length f.known_points → IfSome (slice_get f.known_points place) fact) same
    (λ here. subst (λ found. IfSome found fact) (sym (slice_get_read inside.known_points (length inside.known_points) place one refl here is)) holds) within

pub detector_there : (inside old : FieldState) (place : ℕ) (one : KnownDetectorState) (fact : KnownDetectorState → Type 0) → inside ≡ old → place < length old.detectors → one ≡ get_or inside.detectors place one → fact one →
    IfSome (slice_get old.detectors place) fact
detector_there inside old place one fact same within is holds =
    subst (λ (f : FieldState). place < length f.detectors → IfSome (slice_get f.detectors place) fact) same
    (λ here. subst (λ found. IfSome found fact) (sym (slice_get_read inside.detectors (length inside.detectors) place one refl here is)) holds) within

-- ---- ticks

pub all_tick : (now : ℕ) (rest : Rest) (old : FieldState) (box : OutboxState) (known_signals : List KnownSignalState) (one : OutboxState) (known_points : List KnownPointState) (two : OutboxState) (detectors : List KnownDetectorState) (out : OutboxState) →
    KnownSignalsTurned now 2 (known_signal_ticking now) (length old.known_signals) old.known_signals box known_signals one → KnownPointsTurned now 2 (known_point_ticking now) (length old.known_points) old.known_points one known_points two →
    DetectorsTurned now 2 (detector_ticking now) (length old.detectors) old.detectors two detectors out →
    FieldGoes now (2 * (length old.known_signals + length old.known_points + length old.detectors)) (ticked now Tick) rest old box (record old { known_signals = known_signals; known_points = known_points; detectors = detectors }) out
unfolding ticked
all_tick now rest old box known_signals one known_points two detectors out first second third = record {
  leads = leads_at (ticked now Tick) (kept old rest) box (kept (record old { known_signals = known_signals; known_points = known_points; detectors = detectors }) rest) out
      (λ calls acted.
      let begins : Comes (over (known_signal_ticking now) (length old.known_signals) (part_at (kept old rest) box calls acted)) (with_known_signals known_signals (kept old rest)) one =
      first.leads (kept old rest) refl (part_at (kept old rest) box calls acted) refl refl
      in let goes_on : Comes (over (known_point_ticking now) (length old.known_points) (over (known_signal_ticking now) (length old.known_signals) (part_at (kept old rest) box calls acted))) (with_known_points known_points (with_known_signals known_signals (kept old rest))) two =
      second.leads (with_known_signals known_signals (kept old rest)) refl _ begins.0 begins.1
      in third.leads (with_known_points known_points (with_known_signals known_signals (kept old rest))) refl _ goes_on.0 goes_on.1);
  reporters = refl;
  known_signals = first.each;
  known_points = second.each;
  detectors = third.each;
  clock = record { known_signals = first.clock; known_points = second.clock; detectors = third.clock };
  keys = λ key under. record { known_signals = first.keys key under.known_signals; known_points = second.keys key under.known_points; detectors = third.keys key under.detectors };
  capacity = third.capacity ∙ second.capacity ∙ first.capacity;
  few = omega (arith, first.few, second.few, third.few);
}

pub all_tick_from : (now : ℕ) (rest : Rest) (inside old : FieldState) (box : OutboxState) (known_signals_were known_signals : List KnownSignalState) (one : OutboxState) (known_points_were known_points : List KnownPointState) (two : OutboxState) (detectors_were detectors : List KnownDetectorState) (out : OutboxState) →
    inside ≡ old → known_signals_were ≡ inside.known_signals → known_points_were ≡ inside.known_points → detectors_were ≡ inside.detectors →
    KnownSignalsTurned now 2 (known_signal_ticking now) (length known_signals_were) known_signals_were box known_signals one → KnownPointsTurned now 2 (known_point_ticking now) (length known_points_were) known_points_were one known_points two →
    DetectorsTurned now 2 (detector_ticking now) (length detectors_were) detectors_were two detectors out →
    FieldGoes now (2 * (length old.known_signals + length old.known_points + length old.detectors)) (ticked now Tick) rest old box (record inside { known_signals = known_signals; known_points = known_points; detectors = detectors }) out
all_tick_from now rest inside old box known_signals_were known_signals one known_points_were known_points two detectors_were detectors out same known_signals_are known_points_are detectors_are first second third =
    subst (λ (o : FieldState). FieldGoes now (2 * (length o.known_signals + length o.known_points + length o.detectors)) (ticked now Tick) rest o box (record inside { known_signals = known_signals; known_points = known_points; detectors = detectors }) out) same
    (all_tick now rest inside box known_signals one known_points two detectors out
    (subst (λ (xs : List KnownSignalState). KnownSignalsTurned now 2 (known_signal_ticking now) (length xs) xs box known_signals one) known_signals_are first)
    (subst (λ (xs : List KnownPointState). KnownPointsTurned now 2 (known_point_ticking now) (length xs) xs one known_points two) known_points_are second)
    (subst (λ (xs : List KnownDetectorState). DetectorsTurned now 2 (detector_ticking now) (length xs) xs two detectors out) detectors_are third))

-- a fact of a field is one of the same lists
pub same_lists : (fact : FieldState → Type 0) (known_signals same_known_signals : List KnownSignalState) (known_points same_known_points : List KnownPointState) (detectors same_detectors : List KnownDetectorState) (reporters : List (ℕ × ℕ)) →
    known_signals ≡ same_known_signals → known_points ≡ same_known_points → detectors ≡ same_detectors →
    fact (record { known_signals = same_known_signals; known_points = same_known_points; detectors = same_detectors; reporters = reporters }) → fact (record { known_signals = known_signals; known_points = known_points; detectors = detectors; reporters = reporters })
same_lists fact known_signals same_known_signals known_points same_known_points detectors same_detectors reporters first second third holds =
    subst (λ (xs : List KnownSignalState). fact (record { known_signals = xs; known_points = known_points; detectors = detectors; reporters = reporters })) (sym first)
    (subst (λ (xs : List KnownPointState). fact (record { known_signals = same_known_signals; known_points = xs; detectors = detectors; reporters = reporters })) (sym second)
    (subst (λ (xs : List KnownDetectorState). fact (record { known_signals = same_known_signals; known_points = same_known_points; detectors = xs; reporters = reporters })) (sym third) holds))
