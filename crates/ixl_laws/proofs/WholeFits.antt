-- What is kept goes on fitting the table.
use Rattle.std.proofs.Common.{◌≡◌, ◌⊎◌, inl, inr, ℕ, zero, suc, List, [], ◌∷◌, length, arith, refl, ap, sym, ◌∙◌, subst}
use Rattle.std.specs.Prelude.{◌&&◌, ◌||◌, ◌==◌, Option, Some, None, slice_get}
use Rattle.ixl_state.specs.release.Passage.{passage_after}
use Rattle.ixl_state.specs.ixl_spec.Due.{IsRouteOf}
use Rattle.ixl_state.specs.ixl_spec.StepSoFar.{StepSoFar, at_route, giving_aspect, giving_move, with_one, with_route}
use Rattle.ixl_state.specs.ixl_spec.Rules.{authorised, come_to, ending_authority, freeing_by_cancel, freeing_next, frees_cancelled, frees_next, is_move_due, is_proceed_due, is_proceeding, is_stop_due, is_withdrawn, moving_one, one_freed, proceeding, stopped, withdrawing}
use Rattle.ixl_state.specs.ixl_spec.State.{IxlState, RouteState, changed}
use Rattle.ixl_state.specs.ixl_spec.Step.{watching}
use Rattle.ixl_state.specs.ixl_spec.Table.{Need, Row, Table}
use Rattle.ixl_state.specs.ixl_spec.View.{is_at_known_stop, is_signal_ready}
use Rattle.ixl_state.specs.ixl_spec.declared.phase.Phase.{Phase}
use Rattle.ixl_state.specs.ixl_spec.declared.phase.Phase.TheVariants as phase
use Rattle.ixl_laws.specs.WholeStep.{Fits}
use Rattle.ixl_laws.proofs.PickedByTest.{either, none_is, some_same}

-- ---- lists

pub changed_length : {A : Type 0} (change : A → A) (place : ℕ) (list : List A) → length (changed change place list) ≡ length list
changed_length change place [] = refl
changed_length change zero (first ∷ others) = refl
changed_length change (suc place) (first ∷ others) = ap suc (changed_length change place others)

-- one of a list that was changed at a place
pub changed_or_same : {A : Type 0} (change : A → A) (number place : ℕ) (list : List A) (after : A) → slice_get (changed change number list) place ≡ Some after →
    (before : A) × (slice_get list place ≡ Some before) × ((after ≡ before) ⊎ ((place ≡ number) × (after ≡ change before)))
changed_or_same change number place [] after is = absurd (none_is is)
changed_or_same change zero zero (first ∷ others) after is = (first, refl, inr (refl, sym (some_same is)))
changed_or_same change zero (suc place) (first ∷ others) after is = (after, is, inl refl)
changed_or_same change (suc number) zero (first ∷ others) after is = (first, refl, inl (sym (some_same is)))
changed_or_same change (suc number) (suc place) (first ∷ others) after is = further (changed_or_same change number place others after is) where
  further : (before : _) × (slice_get others place ≡ Some before) × ((after ≡ before) ⊎ ((place ≡ number) × (after ≡ change before))) →
      (before : _) × (slice_get others place ≡ Some before) × ((after ≡ before) ⊎ ((suc place ≡ suc number) × (after ≡ change before)))
  further (before, there, inl same) = (before, there, inl same)
  further (before, there, inr here) = (before, there, inr (ap suc here.0, here.1))

-- a list has one at each place at which one that is as long has
pub there_too : {A B : Type 0} (list : List A) (other : List B) (place : ℕ) (one : B) → length list ≡ length other → slice_get other place ≡ Some one → (found : A) × (slice_get list place ≡ Some found)
there_too list [] place one long is = absurd (none_is is)
there_too [] (first ∷ others) place one long is = absurd (omega (arith, long))
there_too (a ∷ list) (first ∷ others) zero one long is = (a, refl)
there_too (a ∷ list) (first ∷ others) (suc place) one long is = let less : length list ≡ length others = omega (arith, long) in there_too list others place one less is

module _ (table : Table) where
  pub fits_same : (a b : IxlState) → b.routes ≡ a.routes → Fits table a → Fits table b
  fits_same a b same fits = record {
    each = ap (λ (routes : List RouteState). length routes) same ∙ fits.each;
    passages = λ number row route is. fits.passages number row route (is.0, ap (λ (routes : List RouteState). slice_get routes number) (sym same) ∙ is.1);
  }

  -- one route is changed, and its passage leads over its sections then
  pub route_fits : (number : ℕ) (change : RouteState → RouteState) (ixl : IxlState) → ((row : Row) (route : RouteState) → IsRouteOf table ixl number row route → (change route).passage.sections ≡ length row.sections) →
      Fits table ixl → Fits table (record ixl { routes = changed change number ixl.routes })
  route_fits number change ixl leads fits = record {
    each = changed_length change number ixl.routes ∙ fits.each;
    passages = λ place row route is. by_place place row route is.0 (changed_or_same change number place ixl.routes route is.1);
  } where
    by_place : (place : ℕ) (row : Row) (route : RouteState) → slice_get table.rows place ≡ Some row →
        (before : RouteState) × (slice_get ixl.routes place ≡ Some before) × ((route ≡ before) ⊎ ((place ≡ number) × (route ≡ change before))) → route.passage.sections ≡ length row.sections
    by_place place row route there (before, is, inl same) = ap (λ (r : RouteState). r.passage.sections) same ∙ fits.passages place row before (there, is)
    by_place place row route there (before, is, inr (here, same)) =
        ap (λ (r : RouteState). r.passage.sections) same ∙ leads row before (subst (λ n. slice_get table.rows n ≡ Some row) here there, subst (λ n. slice_get ixl.routes n ≡ Some before) here is)

  -- the change keeps how many sections the passage leads over
  pub kept_fits : (number : ℕ) (change : RouteState → RouteState) (ixl : IxlState) → ((route : RouteState) → (change route).passage.sections ≡ route.passage.sections) →
      Fits table ixl → Fits table (record ixl { routes = changed change number ixl.routes })
  kept_fits number change ixl keeps fits = route_fits number change ixl (λ row route is. keeps route ∙ fits.passages number row route is) fits

  -- a route of the table is kept
  pub route_of : (ixl : IxlState) (number : ℕ) (row : Row) → Fits table ixl → slice_get table.rows number ≡ Some row → (route : RouteState) × (slice_get ixl.routes number ≡ Some route)
  route_of ixl number row fits there = there_too ixl.routes table.rows number row fits.each there

  pub at_route_is : (number : ℕ) (does : Row → RouteState → StepSoFar → StepSoFar) (part : StepSoFar) (row : Row) (route : RouteState) → IsRouteOf table part.ixl number row route →
      at_route table number does part ≡ does row route part
  unfolding at_route
  at_route_is number does part row route is = rw (is.0, is.1) refl

-- ---- what is given leaves the routes

pub with_one_keeps : {A : Type 0} (one : Option A) (does : A → StepSoFar → StepSoFar) (part : StepSoFar) → ((a : A) → (does a part).ixl.routes ≡ part.ixl.routes) → (with_one one does part).ixl.routes ≡ part.ixl.routes
with_one_keeps None does part each = refl
with_one_keeps (Some a) does part each = each a

pub aspect_keeps : (now signal : ℕ) (aspect : _) (part : StepSoFar) → (giving_aspect now signal aspect part).ixl.routes ≡ part.ixl.routes
unfolding giving_aspect
aspect_keeps now signal aspect part = with_one_keeps (slice_get part.ixl.known_signals signal) _ part (λ known_signal. refl)

pub move_keeps : (now point : ℕ) (side : _) (part : StepSoFar) → (giving_move now point side part).ixl.routes ≡ part.ixl.routes
unfolding giving_move
move_keeps now point side part = with_one_keeps (slice_get part.ixl.known_points point) _ part (λ known_point. refl)

one_freed_keeps : (row : Row) (p : Phase) (route : RouteState) → (one_freed row p route).passage.sections ≡ route.passage.sections
one_freed_keeps row (phase.Ended clock done) route = either (λ (r : RouteState). r.passage.sections ≡ route.passage.sections) (suc done == length row.sections) _ _ refl refl
one_freed_keeps row phase.Free route = refl
one_freed_keeps row phase.Waiting route = refl
one_freed_keeps row phase.Proceeding route = refl
one_freed_keeps row phase.Withdrawn route = refl

pub passage_of : (n : ℕ) → (passage_after n []).sections ≡ n
unfolding passage_after
passage_of n = refl

-- ---- each rule at a route

module _ (now : ℕ) (table : Table) (number : ℕ) (part : StepSoFar) (row : Row) (route : RouteState) (is : IsRouteOf table part.ixl number row route) (fits : Fits table part.ixl) where
  FitsPart : StepSoFar → Type 0
  FitsPart other = Fits table other.ixl

  at_this : (does : Row → RouteState → StepSoFar → StepSoFar) → Fits table (does row route part).ixl → Fits table (at_route table number does part).ixl
  at_this does fit = subst (λ (p : StepSoFar). Fits table p.ixl) (sym (at_route_is table number does part row route is)) fit

  kept : (change : RouteState → RouteState) → ((other : RouteState) → (change other).passage.sections ≡ other.passage.sections) → Fits table (with_route number change part).ixl
  kept change keeps = kept_fits table number change part.ixl keeps fits

  pub watching_fits : Fits table (watching table number part).ixl
  unfolding watching
  watching_fits = at_this _ (either (λ (p : StepSoFar). Fits table p.ixl) (is_proceeding route.phase || is_withdrawn route.phase) _ _ (kept _ (λ other. refl)) fits)

  pub withdrawing_fits : Fits table (withdrawing now table number part).ixl
  unfolding withdrawing
  withdrawing_fits = at_this _ (either (λ (p : StepSoFar). Fits table p.ixl) (is_stop_due table part.ixl row route) _ _ (stop (with_route number (come_to phase.Withdrawn) part) (kept _ (λ other. refl))) fits) where
    stop : (other : StepSoFar) → Fits table other.ixl → Fits table (stopped now row other).ixl
    stop other fit = either (λ (p : StepSoFar). Fits table p.ixl) (is_signal_ready other.ixl row.entry) _ _ (fits_same table other.ixl _ (aspect_keeps now row.entry _ other) fit) fit

  pub ending_fits : Fits table (ending_authority now table number part).ixl
  unfolding ending_authority
  ending_fits = at_this _ (either (λ (p : StepSoFar). Fits table p.ixl) (is_withdrawn route.phase && is_at_known_stop now part.ixl row.entry) _ _ (kept _ (λ other. refl)) fits)

  pub next_fits : Fits table (freeing_next table number part).ixl
  unfolding freeing_next
  next_fits = at_this _ (either (λ (p : StepSoFar). Fits table p.ixl) (frees_next table part.ixl row route route.phase) _ _ (kept _ (one_freed_keeps row route.phase)) fits)

  pub cancel_fits : Fits table (freeing_by_cancel now table number part).ixl
  unfolding freeing_by_cancel
  cancel_fits = at_this _ (either (λ (p : StepSoFar). Fits table p.ixl) (route.cancelled && frees_cancelled now table part.ixl row route route.phase) _ _ (kept _ (λ other. refl)) fits)

  pub moving_fits : (need : Need) → Fits table (moving_one now table number need part).ixl
  unfolding moving_one
  moving_fits need = at_this _ (either (λ (p : StepSoFar). Fits table p.ixl) (is_move_due table part.ixl number route need) _ _ (fits_same table part.ixl _ (move_keeps now need.point need.side part) fits) fits)

  pub proceeding_fits : Fits table (proceeding now table number part).ixl
  unfolding proceeding
  proceeding_fits = at_this _ (either (λ (p : StepSoFar). Fits table p.ixl) (is_proceed_due now table part.ixl row route) _ _
      (fits_same table (with_route number (authorised table part.ixl row) part).ixl _ (aspect_keeps now row.entry row.aspect (with_route number (authorised table part.ixl row) part))
      (route_fits table number (authorised table part.ixl row) part.ixl
      (λ other_row other there. passage_of (length row.sections) ∙ ap (λ (r : Row). length r.sections) (some_same (sym is.0 ∙ there.0))) fits)) fits)
