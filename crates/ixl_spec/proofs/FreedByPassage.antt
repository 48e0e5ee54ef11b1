-- Freeing by passage goes on until nothing more may be freed.
use Rattle.std.proofs.Common.{inl, inr, ◌≡◌, ◌⊎◌, ℕ, suc, zero, ◌+◌, ◌≤◌, Bool, true, false, if◌then◌else◌, List, [], ◌∷◌, length, arith, refl, ap, sym, ◌∙◌, subst}
use Rattle.std.specs.Prelude.{◌&&◌, ◌==◌, Some, None, slice_get}
use Rattle.std.proofs.lemmas.Bool.{true≢false, false≢true}
use Rattle.std.proofs.lemmas.Option.{slice_get_past}
use Rattle.std.proofs.lemmas.Option.{same_Some}
use Rattle.release.specs.Passage.{is_freeable}
use Rattle.ixl_spec.specs.Table.{Row, Table, at, passes}
use Rattle.ixl_spec.specs.State.{IxlState, RouteState, changed}
use Rattle.ixl_spec.specs.View.{is_clear}
use Rattle.ixl_spec.specs.Due.{IsRouteOf}
use Rattle.ixl_spec.specs.StepSoFar.{StepSoFar, with_route}
use Rattle.ixl_spec.specs.Rules.{come_to, freed, freeing_by_passage, freeing_next, frees_next, one_freed, repeated}
use Rattle.ixl_spec.specs.declared.phase.Phase.{Phase}
use Rattle.ixl_spec.specs.declared.phase.Phase.TheVariants as phase
use Rattle.ixl_spec.specs.EndDue.{SomeFreeable}
use Rattle.ixl_spec.proofs.Decide.{and_yes}
use Rattle.ixl_spec.proofs.Due.{at_one, passage_decides}
use Rattle.ixl_spec.proofs.HoldTests.{none_is}

-- whether the next section of a route is freed, by which sections are clear
frees_of : (ℕ → Bool) → Row → RouteState → Phase → Bool
frees_of clear row route (phase.Ended clock done) = is_freeable route.passage done true && at row.sections done clear
frees_of clear row route _ = false

frees : (ℕ → Bool) → Row → RouteState → Bool
frees clear row route = frees_of clear row route route.phase

-- a route after one attempt, and after so many
attempted : (ℕ → Bool) → Row → RouteState → RouteState
attempted clear row route = if frees clear row route then one_freed row route.phase route else route

attempts : ℕ → (ℕ → Bool) → Row → RouteState → RouteState
attempts zero clear row route = route
attempts (suc more) clear row route = attempts more clear row (attempted clear row route)

done_of : Phase → ℕ
done_of (phase.Ended clock done) = done
done_of _ = 0

-- a route that frees nothing stays as it is
stuck : (more : ℕ) (clear : ℕ → Bool) (row : Row) (route : RouteState) → frees clear row route ≡ false → attempts more clear row route ≡ route
unfolding attempts attempted
stuck zero clear row route is = refl
stuck (suc more) clear row route is =
    ap (attempts more clear row) (ap (λ b. if b then one_freed row route.phase route else route) is) ∙ stuck more clear row route is

-- a route that still frees something has freed one in each attempt
Goes : ℕ → (ℕ → Bool) → Row → RouteState → Type 0
Goes more clear row route = frees clear row (attempts more clear row route) ≡ true → done_of route.phase + more ≤ done_of (attempts more clear row route).phase

one_goes : (clear : ℕ → Bool) (row : Row) (route : RouteState) → frees clear row route ≡ true →
    (frees clear row (attempted clear row route) ≡ false) ⊎ (done_of (attempted clear row route).phase ≡ suc (done_of route.phase))
unfolding frees frees_of attempted done_of
one_goes clear row route is = by_phase route.phase refl where
  by_last : (clock done : ℕ) (b : Bool) → (frees clear row (if b then freed route else come_to (phase.Ended clock (suc done)) route) ≡ false)
      ⊎ (done_of (if b then freed route else come_to (phase.Ended clock (suc done)) route).phase ≡ suc done)
  by_last clock done true = inl refl
  by_last clock done false = inr refl

  by_phase : (p : Phase) → route.phase ≡ p →
      (frees clear row (if frees clear row route then one_freed row route.phase route else route) ≡ false)
      ⊎ (done_of (if frees clear row route then one_freed row route.phase route else route).phase ≡ suc (done_of route.phase))
  by_phase (phase.Ended clock done) same = rw is (rw same (by_last clock done (suc done == length row.sections)))
  by_phase phase.Free same = absurd (false≢true (ap (frees_of clear row route) (sym same) ∙ is))
  by_phase phase.Waiting same = absurd (false≢true (ap (frees_of clear row route) (sym same) ∙ is))
  by_phase phase.Proceeding same = absurd (false≢true (ap (frees_of clear row route) (sym same) ∙ is))
  by_phase phase.Withdrawn same = absurd (false≢true (ap (frees_of clear row route) (sym same) ∙ is))

goes_on : (more : ℕ) (clear : ℕ → Bool) (row : Row) (route : RouteState) → frees clear row route ≡ true →
    (frees clear row (attempted clear row route) ≡ false) ⊎ (done_of (attempted clear row route).phase ≡ suc (done_of route.phase)) →
    Goes more clear row (attempted clear row route) → Goes (suc more) clear row route
unfolding Goes attempts
goes_on more clear row route is (inl none) goes =
    λ still. absurd (true≢false (sym still ∙ ap (frees clear row) (stuck more clear row (attempted clear row route) none) ∙ none))
goes_on more clear row route is (inr one) goes = λ still. omega (arith, goes still, one)

all_go : (more : ℕ) (clear : ℕ → Bool) (row : Row) (route : RouteState) → Goes more clear row route
unfolding Goes attempts
all_go zero clear row route = λ is. omega arith
all_go (suc more) clear row route = by_frees (frees clear row route) refl (all_go more clear row (attempted clear row route)) where
  by_frees : (b : Bool) → frees clear row route ≡ b → Goes more clear row (attempted clear row route) → Goes (suc more) clear row route
  by_frees false none goes = λ still. absurd (true≢false (sym still ∙ ap (frees clear row) (stuck (suc more) clear row route none) ∙ none))
  by_frees true is goes = goes_on more clear row route is (one_goes clear row route is) goes

none_at : {A : Type 0} (list : List A) (place : ℕ) (test : A → Bool) → slice_get list place ≡ None → at list place test ≡ false
unfolding at
none_at list place test is = ap (passes test) is

-- so after as many attempts as there are sections nothing is freed
none_left : (clear : ℕ → Bool) (row : Row) (route : RouteState) → frees clear row (attempts (length row.sections) clear row route) ≡ false
unfolding Goes frees frees_of done_of
none_left clear row route = by_end (attempts (length row.sections) clear row route) (all_go (length row.sections) clear row route) where
  beyond : (done : ℕ) → length row.sections ≤ done → at row.sections done clear ≡ false
  beyond done more = none_at row.sections done clear (slice_get_past row.sections done more)

  by_end : (end : RouteState) → (frees clear row end ≡ true → done_of route.phase + length row.sections ≤ done_of end.phase) → frees clear row end ≡ false
  by_end end goes = by_frees (frees clear row end) refl where
    by_phase : (p : Phase) → end.phase ≡ p → frees_of clear row end p ≡ true → ⊥
    by_phase (phase.Ended clock done) is frees_it =
        true≢false (sym (and_yes _ _ frees_it).1 ∙ beyond done (omega (arith, goes (ap (frees_of clear row end) is ∙ frees_it), ap done_of is)))
    by_phase phase.Free is frees_it = false≢true frees_it
    by_phase phase.Waiting is frees_it = false≢true frees_it
    by_phase phase.Proceeding is frees_it = false≢true frees_it
    by_phase phase.Withdrawn is frees_it = false≢true frees_it

    by_frees : (b : Bool) → frees clear row end ≡ b → b ≡ false
    by_frees false is = refl
    by_frees true is = absurd (by_phase end.phase refl is)

-- ---- in a step

frees_same : (table : Table) (ixl : IxlState) (row : Row) (route : RouteState) → frees_next table ixl row route route.phase ≡ frees (is_clear table ixl) row route
unfolding frees frees_of
frees_same table ixl row route = by_phase route.phase where
  by_phase : (p : Phase) → frees_next table ixl row route p ≡ frees_of (is_clear table ixl) row route p
  by_phase phase.Free = refl
  by_phase phase.Waiting = refl
  by_phase phase.Proceeding = refl
  by_phase phase.Withdrawn = refl
  by_phase (phase.Ended clock done) = refl

changed_at : {A : Type 0} (change : A → A) (place : ℕ) (list : List A) (one : A) → slice_get list place ≡ Some one → slice_get (changed change place list) place ≡ Some (change one)
changed_at change place [] one is = absurd (none_is is)
changed_at change zero (first ∷ others) one is = ap (λ o. Some (change o)) (same_Some _ _ is)
changed_at change (suc place) (first ∷ others) one is = changed_at change place others one is

Follows : (table : Table) (number : ℕ) (row : Row) → StepSoFar → RouteState → StepSoFar → Type 0
Follows table number row part route after = IsRouteOf table after.ixl number row route × (is_clear table after.ixl ≡ is_clear table part.ixl)

one_follows : (table : Table) (number : ℕ) (part : StepSoFar) (row : Row) (route : RouteState) → IsRouteOf table part.ixl number row route →
    Follows table number row part (attempted (is_clear table part.ixl) row route) (freeing_next table number part)
unfolding Follows freeing_next attempted is_clear
one_follows table number part row route is = subst (Follows table number row part _) (sym (at_one table number _ part row route is)) (by_test (frees_next table part.ixl row route route.phase) (frees_same table part.ixl row route)) where
  by_test : (b : Bool) → b ≡ frees (is_clear table part.ixl) row route →
      Follows table number row part (if frees (is_clear table part.ixl) row route then one_freed row route.phase route else route) (if b then with_route number (one_freed row route.phase) part else part)
  by_test true same = subst (λ b. Follows table number row part (if b then one_freed row route.phase route else route) (with_route number (one_freed row route.phase) part)) same
      ((is.0, changed_at (one_freed row route.phase) number part.ixl.routes route is.1), refl)
  by_test false same = subst (λ b. Follows table number row part (if b then one_freed row route.phase route else route) part) same (is, refl)

all_follow : (more : ℕ) (table : Table) (number : ℕ) (part : StepSoFar) (row : Row) (route : RouteState) → IsRouteOf table part.ixl number row route →
    Follows table number row part (attempts more (is_clear table part.ixl) row route) (repeated more (freeing_next table number) part)
unfolding Follows attempts
all_follow zero table number part row route is = (is, refl)
all_follow (suc more) table number part row route is =
    let one = one_follows table number part row route is
    in let rest = all_follow more table number (freeing_next table number part) row _ one.0
    in (subst (λ clear. IsRouteOf table (repeated more (freeing_next table number) (freeing_next table number part)).ixl number row (attempts more clear row (attempted (is_clear table part.ixl) row route))) one.1 rest.0, rest.1 ∙ one.1)

pub nothing_more : (table : Table) (number : ℕ) (part : StepSoFar) (row : Row) (route after : RouteState) → IsRouteOf table part.ixl number row route →
    IsRouteOf table (freeing_by_passage table number part).ixl number row after → after.passage.sections ≡ length row.sections →
    SomeFreeable table (freeing_by_passage table number part).ixl row after → ⊥
unfolding freeing_by_passage Follows
nothing_more table number part row route after is also fits freeable =
    true≢false (sym ((passage_decides table end.ixl row after fits).shown freeable) ∙ frees_same table end.ixl row after ∙ ap (λ clear. frees clear row after) follows.1
    ∙ ap (frees (is_clear table part.ixl) row) (same_Some _ _ (sym also.1 ∙ follows.0.1)) ∙ none_left (is_clear table part.ixl) row route)
  where
    end : StepSoFar
    end = freeing_by_passage table number part

    follows : Follows table number row part (attempts (length row.sections) (is_clear table part.ixl) row route) end
    follows = subst (Follows table number row part _) (sym (at_one table number _ part row route is)) (all_follow (length row.sections) table number part row route is)
