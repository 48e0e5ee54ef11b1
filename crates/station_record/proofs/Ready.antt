-- What is read of an interlocking's routes and links.
use Rattle.std.proofs.Common.{◌≡◌, ◌∙◌, ℕ, zero, suc, ◌<◌, ◌≤◌, Bool, List, [], ◌∷◌, length, Some, None, refl, ap, sym, subst, arith}
use Rattle.std.specs.Prelude.{IfSome, slice_get}
use Rattle.std.specs.Option.{option_map}
use Rattle.replay.specs.ixl_spec.State.{IxlState, RouteState}
use Rattle.replay.specs.ixl_spec.Table.{passes}
use Rattle.replay.specs.simulator.ixl_state.State.{AtRoute, StateView, field_of, rest_of}
use Rattle.replay.specs.simulator.ixl_state.ixl_known.Field.{FieldState, Rest, kept}
use Rattle.station_record.specs.Links.{link_of}
use Rattle.station_record.specs.Seen.{progress_of}
use Rattle.lane_chart.specs.declared.lane.Progress.{Progress}
use Rattle.lane_chart.specs.declared.lane.Readiness.{Readiness}

there : {A : Type 0} (xs : List A) (n : ℕ) → n < length xs → (x : A) × (slice_get xs n ≡ Some x)
there [] n below = absurd (omega (arith, below))
there (x ∷ xs) zero below = (x, refl)
there (x ∷ xs) (suc n) below = there xs n (omega (arith, below))

past : {A : Type 0} (xs : List A) (n : ℕ) → length xs ≤ n → slice_get xs n ≡ None
past [] n beyond = refl
past (x ∷ xs) zero beyond = absurd (omega (arith, beyond))
past (x ∷ xs) (suc n) beyond = past xs n (omega (arith, beyond))

-- a fact of all that may be kept beside the controllers, of a state
pub of_field : (holds : IxlState → Type 0) (state : StateView) (field : FieldState) → field ≡ field_of state → ((rest : Rest) → holds (kept field rest)) → holds state.ixl
of_field holds state field is says = (subst (λ (f : FieldState). (rest : Rest) → holds (kept f rest)) is says) (rest_of state)

-- how far a link is
pub linked : (is_up is_ready up ready : Bool) (found : Readiness) → found ≡ link_of is_up is_ready → is_up ≡ up → is_ready ≡ ready → found ≡ link_of up ready
linked is_up is_ready up ready found is one other = is ∙ ap (λ u. link_of u is_ready) one ∙ ap (link_of up) other

-- how far a route of the table is
pub progress_there : (state : StateView) (number : ℕ) (kept : RouteState) (found : Progress) → number < length state.sited.table.rows → length state.ixl.routes ≡ length state.sited.table.rows
    → AtRoute state number (λ row route. kept ≡ route) → found ≡ progress_of kept.phase
    → Some found ≡ option_map (λ (route : RouteState). progress_of route.phase) (slice_get state.ixl.routes number)
progress_there state number kept found below each at is =
    let row = there state.sited.table.rows number below
    in let route = there state.ixl.routes number (omega (arith, below, each))
    in ap Some (is ∙ ap (λ (r : RouteState). progress_of r.phase) (at row.0 route.0 (row.1, route.1)))
    ∙ sym (ap (option_map (λ (r : RouteState). progress_of r.phase)) route.1)

-- nothing is kept of a route that the table lacks
pub progress_lacking : (state : StateView) (number : ℕ) → length state.sited.table.rows ≤ number → length state.ixl.routes ≡ length state.sited.table.rows
    → None ≡ option_map (λ (route : RouteState). progress_of route.phase) (slice_get state.ixl.routes number)
progress_lacking state number beyond each =
    sym (ap (option_map (λ (r : RouteState). progress_of r.phase)) (past state.ixl.routes number (omega (arith, beyond, each))))

-- a test of what a list has at a place
pub passes_there : {A : Type 0} (test : A → Bool) (xs : List A) (n : ℕ) (found : Bool) → n < length xs → IfSome (slice_get xs n) (λ x. found ≡ test x) → found ≡ passes test (slice_get xs n)
passes_there test xs n found below at =
    let one = there xs n below
    in subst (λ o. IfSome o (λ x. found ≡ test x)) one.1 at ∙ sym (ap (passes test) one.1)

pub passes_past : {A : Type 0} (test : A → Bool) (xs : List A) (n : ℕ) → length xs ≤ n → passes test None ≡ passes test (slice_get xs n)
passes_past test xs n beyond = sym (ap (passes test) (past xs n beyond))
