-- What the controllers' turns make of a state.
use Rattle.std.proofs.Common.{◌≡◌, ◌∙◌, ℕ, ◌≤◌, List, length, refl, sym, ap, subst, arith}
use Rattle.std.proofs.lemmas.List.{length-map}
use Rattle.ixl_spec.specs.rasta_core.Outbox.{OutboxState}
use Rattle.ixl_spec.specs.layout.Station.{IsStation}
use Rattle.route_lock.specs.Locks.{LockState}
use Rattle.ixl_spec.specs.First.{key_of}
use Rattle.ixl_spec.specs.StepSoFar.{StepSoFar}
use Rattle.ixl_spec.specs.State.{RouteState}
use Rattle.ixl_spec.specs.Step.{all_clocked, clocked_detector, clocked_known_signal, clocked_known_point}
use Rattle.ixl_table.specs.Table.{SitedTable}
use Rattle.ixl_known.specs.Field as field
use Rattle.ixl_known.specs.Field.{AllUnder, FieldGoes, FieldState, Rest, field_clocked}
use Rattle.ixl_state.specs.State.{AllAt, Goes, MayStepAll, StateView, field_of}
use Rattle.ixl_state.specs.inside.Kept.{IsFieldOf, IsState}
use Rattle.ixl_state.proofs.Keys.{clocked-under}
use Rattle.ixl_state.proofs.RouteChange.{view_of}

-- how many controllers there are
pub few-controllers : (sited : SitedTable) (f : FieldState) → IsFieldOf sited f → IsStation sited.site → (length f.known_signals ≤ 32) × (length f.known_points ≤ 32) × (length f.detectors ≤ 16)
few-controllers sited f is station =
    let known_signals = is.known_signals in
    let known_points = is.known_points in
    let detectors = is.detectors in
    let signals = station.limits.signals in
    let points = station.limits.points in
    let few = station.limits.detectors in
    (omega (arith, known_signals, signals), omega (arith, known_points, points), omega (arith, detectors, few))

module _ (sited : SitedTable) (rest : Rest) where
  abbrev with : FieldState → StateView
  with f = view_of sited f rest.routes rest.created rest.resumed rest.closed

  pub at-field : (now : ℕ) (f : FieldState) (view : StateView) → with f ≡ view → AllAt now view → field.AllAt now f
  at-field now f view is all = let at : AllAt now (with f) = subst (AllAt now) (sym is) all in record { known_signals = at.known_signals; known_points = at.known_points; detectors = at.detectors }

  pub may-field : (now : ℕ) (f : FieldState) (view : StateView) → with f ≡ view → MayStepAll now view → field.MayStepAll now f
  may-field now f view is all = let at : MayStepAll now (with f) = subst (MayStepAll now) (sym is) all in record { known_signals = at.known_signals; known_points = at.known_points; detectors = at.detectors }

  pub field-may : (now : ℕ) (f : FieldState) (view : StateView) → with f ≡ view → field.MayStepAll now f → MayStepAll now view
  field-may now f view is all = let at : MayStepAll now (with f) = record { known_signals = all.known_signals; known_points = all.known_points; detectors = all.detectors } in subst (MayStepAll now) is at

  pub field-at : (now : ℕ) (f : FieldState) → field.AllAt now f → AllAt now (with f)
  field-at now f all = record { known_signals = all.known_signals; known_points = all.known_points; detectors = all.detectors }

  pub field-under : (f : FieldState) (view : StateView) → with f ≡ view → AllUnder (key_of sited.site) f → AllUnder (key_of view.sited.site) (field_of view)
  field-under f view is all =
      let under : AllUnder (key_of sited.site) (field_of (with f)) = record { known_signals = all.known_signals; known_points = all.known_points; detectors = all.detectors }
      in subst (λ (v : StateView). AllUnder (key_of v.sited.site) (field_of v)) is under

  -- ---- a turn of the field is one of the state

  pub goes-of : (now most : ℕ) (does : StepSoFar → StepSoFar) (old : FieldState) (view : StateView) (box : OutboxState) (new : FieldState) (out : OutboxState) → with old ≡ view
      → FieldGoes now most does rest old box new out → Goes now most does view box (with new) out
  goes-of now most does old view box new out is goes =
      subst (λ (v : StateView). Goes now most does v box (with new) out) is
      (record { leads = goes.leads; sited = refl; clock = field-at now new goes.clock; capacity = goes.capacity; few = goes.few })

  pub goes-at-most : (now some most : ℕ) (does : StepSoFar → StepSoFar) (old : FieldState) (view : StateView) (box : OutboxState) (new : FieldState) (out : OutboxState) → with old ≡ view → some ≤ most
      → FieldGoes now some does rest old box new out → Goes now most does view box (with new) out
  goes-at-most now some most does old view box new out is within goes =
      let few = goes.few in
      subst (λ (v : StateView). Goes now most does v box (with new) out) is
      (record { leads = goes.leads; sited = refl; clock = field-at now new goes.clock; capacity = goes.capacity; few = omega (arith, few, within) })

  pub state-kept : (now most : ℕ) (does : StepSoFar → StepSoFar) (old : FieldState) (box : OutboxState) (new : FieldState) (out : OutboxState) (routes : List RouteState) (locks : LockState)
      → FieldGoes now most does rest old box new out → IsState sited old routes locks → IsState sited new routes locks
  state-kept now most does old box new out routes locks goes is = record {
    field_is = record {
      reporters = goes.reporters ∙ is.field_is.reporters;
      known_signals = goes.known_signals ∙ is.field_is.known_signals;
      known_points = goes.known_points ∙ is.field_is.known_points;
      detectors = goes.detectors ∙ is.field_is.detectors;
      keys = goes.keys (key_of sited.site) is.field_is.keys;
    };
    routes_are = is.routes_are;
    locks_are = is.locks_are;
  }

  -- ---- the clock

  pub clocked-kept : (now : ℕ) (old new : FieldState) (routes : List RouteState) (locks : LockState) → new ≡ field_clocked now old → IsState sited old routes locks → IsState sited new routes locks
  clocked-kept now old new routes locks same is = subst (λ (f : FieldState). IsState sited f routes locks) (sym same) (record {
    field_is = record {
      reporters = is.field_is.reporters;
      known_signals = length-map old.known_signals (clocked_known_signal now) ∙ is.field_is.known_signals;
      known_points = length-map old.known_points (clocked_known_point now) ∙ is.field_is.known_points;
      detectors = length-map old.detectors (clocked_detector now) ∙ is.field_is.detectors;
      keys = clocked-under now (key_of sited.site) old is.field_is.keys;
    };
    routes_are = is.routes_are;
    locks_are = is.locks_are;
  })

  pub clocked-view : (now : ℕ) (old new : FieldState) (view : StateView) → with old ≡ view → new ≡ field_clocked now old → with new ≡ record view { ixl = all_clocked now view.ixl }
  unfolding all_clocked
  clocked-view now old new view is same = ap with same ∙ ap (λ (v : StateView). record v { ixl = all_clocked now v.ixl }) is
