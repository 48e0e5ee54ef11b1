-- What is so of a step of an interlocking so far is kept through its shapes.
use Rattle.simulator_recovery.proofs.Words.Basics.{◌≡◌, ℕ, zero, suc, ◌<◌, length, arith, Bool, true, false, List, [], ◌∷◌, Option, Some, None, slice_get, if◌then◌else◌, refl, ap, ◌∙◌, Contains}
use Rattle.simulator_recovery.proofs.Words.Interlockings.{count, ended, ending_authority, freed_by_cancel, freed_by_passage, freeing_by_cancel, freeing_by_passage, freeing_next, moved, moving, moving_one, proceeding, repeated, ruled, withdrawing, withdrawn, RouteState, Commands, Datagram, Input, Tick, detector_ticking, known_point_ticking, known_signal_ticking, looking, looking_by, ticked, watching, StepSoFar, along, at_route, over, with_one, with_route, Need, Row, Table}

module _ (P : StepSoFar → Type 0) where
  pub one_else : {A : Type 0} (found : Option A) (does : A → StepSoFar → StepSoFar) (part : StepSoFar) → ((one : A) → found ≡ Some one → P (does one part)) → (found ≡ None → P part) → P (with_one found does part)
  one_else None does part each none = none refl
  one_else (Some one) does part each none = each one refl

  -- where there is one
  pub there_keeps : {A : Type 0} (found : Option A) (does : A → StepSoFar → StepSoFar) (part : StepSoFar) → (found ≡ None → ⊥) → ((one : A) → found ≡ Some one → P (does one part))
      → P (with_one found does part)
  there_keeps found does part there each = one_else found does part each (λ none. absurd (there none))

  pub one_keeps : {A : Type 0} (found : Option A) (does : A → StepSoFar → StepSoFar) (part : StepSoFar) → ((one : A) → found ≡ Some one → P (does one part)) → P part → P (with_one found does part)
  one_keeps found does part each is = one_else found does part each (λ none. is)

  pub where_keeps : (b : Bool) (part one : StepSoFar) → (b ≡ true → P one) → P part → P (if b then one else part)
  where_keeps true part one so is = so refl
  where_keeps false part one so is = is

  pub where_both : (b : Bool) (part one : StepSoFar) → P one → P part → P (if b then one else part)
  where_both b part one so is = where_keeps b part one (λ holds. so) is

  pub either_keeps : (b : Bool) (one other : StepSoFar) → (b ≡ true → P one) → (b ≡ false → P other) → P (if b then one else other)
  either_keeps true one other so not = so refl
  either_keeps false one other so not = not refl

  pub over_keeps : (does : ℕ → StepSoFar → StepSoFar) → ((number : ℕ) (part : StepSoFar) → P part → P (does number part)) → (n : ℕ) (part : StepSoFar) → P part → P (over does n part)
  over_keeps does each zero part is = is
  over_keeps does each (suc n) part is = each n (over does n part) (over_keeps does each n part is)

  pub along_keeps : {A : Type 0} (does : A → StepSoFar → StepSoFar) → ((one : A) (part : StepSoFar) → P part → P (does one part)) → (list : List A) (part : StepSoFar) → P part → P (along does list part)
  along_keeps does each [] part is = is
  along_keeps does each (first ∷ others) part is = along_keeps does each others (does first part) (each first part is)

  pub along_within : {A : Type 0} (does : A → StepSoFar → StepSoFar) (list : List A) → ((one : A) → Contains list one → (part : StepSoFar) → P part → P (does one part)) → (part : StepSoFar) → P part → P (along does list part)
  along_within does [] each part is = is
  along_within does (first ∷ others) each part is = along_within does others (λ one within. each one (suc within.0, few_more within.0 (length others) within.1, within.2)) (does first part) (each first (0, omega arith, refl) part is)
    where
      few_more : (a b : ℕ) → a < b → suc a < suc b
      few_more a b few = omega (arith, few)

  pub repeated_keeps : (n : ℕ) (does : StepSoFar → StepSoFar) → ((part : StepSoFar) → P part → P (does part)) → (part : StepSoFar) → P part → P (repeated n does part)
  repeated_keeps zero does each part is = is
  repeated_keeps (suc n) does each part is = repeated_keeps n does each (does part) (each part is)

  -- what is done at a route of the table
  pub route_keeps : (table : Table) (number : ℕ) (does : Row → RouteState → StepSoFar → StepSoFar) (part : StepSoFar)
      → ((row : Row) (route : RouteState) → slice_get table.rows number ≡ Some row → slice_get part.ixl.routes number ≡ Some route → P (does row route part)) → P part → P (at_route table number does part)
  unfolding at_route
  route_keeps table number does part each is = one_keeps (slice_get table.rows number) (λ row part. with_one (slice_get part.ixl.routes number) (does row) part) part
      (λ row e. one_keeps (slice_get part.ixl.routes number) (does row) part (λ route f. each row route e f) is) is

  -- and whatever the step before it
  pub route_holds : (table : Table) (number : ℕ) (does : Row → RouteState → StepSoFar → StepSoFar)
      → ((row : Row) (route : RouteState) (part : StepSoFar) → slice_get table.rows number ≡ Some row → slice_get part.ixl.routes number ≡ Some route → P part → P (does row route part))
      → (part : StepSoFar) → P part → P (at_route table number does part)
  route_holds table number does each part is = route_keeps table number does part (λ row route there here. each row route part there here is) is

-- what is so of a step after so many routes is so after one more
pub each_over : (Q : ℕ → StepSoFar → Type 0) (does : ℕ → StepSoFar → StepSoFar) → ((number : ℕ) (part : StepSoFar) → Q number part → Q (suc number) (does number part)) → (n : ℕ) (part : StepSoFar) → Q 0 part → Q n (over does n part)
each_over Q does each zero part is = is
each_over Q does each (suc n) part is = each n (over does n part) (each_over Q does each n part is)

-- nothing is done at a route that isn't kept
pub no_route : (table : Table) (number : ℕ) (does : Row → RouteState → StepSoFar → StepSoFar) (part : StepSoFar) → slice_get part.ixl.routes number ≡ None → at_route table number does part ≡ part
unfolding at_route
no_route table number does part none = by_row (slice_get table.rows number)
  where
    by_row : (found : Option Row) → with_one found (λ row part. with_one (slice_get part.ixl.routes number) (does row) part) part ≡ part
    by_row None = refl
    by_row (Some row) = ap (λ (f : Option RouteState). with_one f (does row) part) none

-- or isn't of the table
pub no_row : (table : Table) (number : ℕ) (does : Row → RouteState → StepSoFar → StepSoFar) (part : StepSoFar) → slice_get table.rows number ≡ None → at_route table number does part ≡ part
unfolding at_route
no_row table number does part none = ap (λ (found : Option Row). with_one found (λ row part. with_one (slice_get part.ixl.routes number) (does row) part) part) none

-- and what is done at one that is both
pub at_one : (table : Table) (number : ℕ) (does : Row → RouteState → StepSoFar → StepSoFar) (part : StepSoFar) (row : Row) (route : RouteState) → slice_get table.rows number ≡ Some row → slice_get part.ixl.routes number ≡ Some route → at_route table number does part ≡ does row route part
unfolding at_route
at_one table number does part row route there here =
    ap (λ (found : Option Row). with_one found (λ row part. with_one (slice_get part.ixl.routes number) (does row) part) part) there ∙ ap (λ (found : Option RouteState). with_one found (does row) part) here

-- ---- what each rule keeps is kept by all of them, and what each tick keeps

module _ (P : StepSoFar → Type 0) (now : ℕ) (table : Table) where
  pub passage_keeps : ((number : ℕ) (part : StepSoFar) → P part → P (freeing_next table number part)) → (number : ℕ) (part : StepSoFar) → P part → P (freeing_by_passage table number part)
  unfolding freeing_by_passage
  passage_keeps next number = route_holds P table number _ (λ row route part there here. repeated_keeps P (length row.sections) (freeing_next table number) (next number) part)

  pub moving_keeps : ((number : ℕ) (need : Need) (part : StepSoFar) → P part → P (moving_one now table number need part)) → (number : ℕ) (part : StepSoFar) → P part → P (moving now table number part)
  unfolding moving
  moving_keeps one number = route_holds P table number _ (λ row route part there here. along_keeps P (moving_one now table number) (one number) row.needs part)

  pub ruled_keeps : ((number : ℕ) (part : StepSoFar) → P part → P (withdrawing now table number part)) → ((number : ℕ) (part : StepSoFar) → P part → P (ending_authority now table number part))
      → ((number : ℕ) (part : StepSoFar) → P part → P (freeing_next table number part)) → ((number : ℕ) (part : StepSoFar) → P part → P (freeing_by_cancel now table number part))
      → ((number : ℕ) (need : Need) (part : StepSoFar) → P part → P (moving_one now table number need part)) → ((number : ℕ) (part : StepSoFar) → P part → P (proceeding now table number part))
      → (part : StepSoFar) → P part → P (ruled now table part)
  ruled_keeps withdraws ends next cancels one proceeds part is =
      over_keeps P (proceeding now table) proceeds (count table) (moved now table part)
      (over_keeps P (moving now table) (moving_keeps one) (count table) (freed_by_cancel now table part)
      (over_keeps P (freeing_by_cancel now table) cancels (count table) (freed_by_passage now table part)
      (over_keeps P (freeing_by_passage table) (passage_keeps next) (count table) (ended now table part)
      (over_keeps P (ending_authority now table) ends (count table) (withdrawn now table part)
      (over_keeps P (withdrawing now table) withdraws (count table) part is)))))

-- where any change of a route leaves it as it is, so do the rules that give nothing, and the looks
module _ (P : StepSoFar → Type 0) (now : ℕ) (table : Table) (turns : (number : ℕ) (change : RouteState → RouteState) (part : StepSoFar) → P part → P (with_route number change part)) where
  pub ending_turns : (number : ℕ) (part : StepSoFar) → P part → P (ending_authority now table number part)
  unfolding ending_authority
  ending_turns number = route_holds P table number _ (λ row route part there here is. where_both P _ part _ (turns number _ part is) is)

  pub next_turns : (number : ℕ) (part : StepSoFar) → P part → P (freeing_next table number part)
  unfolding freeing_next
  next_turns number = route_holds P table number _ (λ row route part there here is. where_both P _ part _ (turns number _ part is) is)

  pub cancel_turns : (number : ℕ) (part : StepSoFar) → P part → P (freeing_by_cancel now table number part)
  unfolding freeing_by_cancel
  cancel_turns number = route_holds P table number _ (λ row route part there here is. where_both P _ part _ (turns number _ part is) is)

  pub watching_turns : (number : ℕ) (part : StepSoFar) → P part → P (watching table number part)
  unfolding watching
  watching_turns number = route_holds P table number _ (λ row route part there here is. where_both P _ part _ (turns number _ part is) is)

  pub looking_turns : (look : ℕ × Bool) (part : StepSoFar) → P part → P (looking table look part)
  unfolding looking_by
  looking_turns look = over_keeps P (looking_by look.0 look.1 table) (λ number. route_holds P table number _
      (λ row route part there here is. where_both P _ part _ (turns number _ part is) is)) (count table)

  pub turned_keeps : ((number : ℕ) (part : StepSoFar) → P part → P (withdrawing now table number part))
      → ((number : ℕ) (need : Need) (part : StepSoFar) → P part → P (moving_one now table number need part))
      → ((number : ℕ) (part : StepSoFar) → P part → P (proceeding now table number part)) → (part : StepSoFar) → P part → P (ruled now table part)
  turned_keeps withdraws one proceeds = ruled_keeps P now table withdraws ending_turns next_turns cancel_turns one proceeds

  -- up to the moves
  pub until_freed : ((number : ℕ) (part : StepSoFar) → P part → P (withdrawing now table number part)) → (part : StepSoFar) → P part
      → P (freed_by_cancel now table (over (watching table) (count table) part))
  until_freed withdraws part is =
      over_keeps P (freeing_by_cancel now table) cancel_turns (count table) (freed_by_passage now table seen)
      (over_keeps P (freeing_by_passage table) (passage_keeps P now table next_turns) (count table) (ended now table seen)
      (over_keeps P (ending_authority now table) ending_turns (count table) (withdrawn now table seen)
      (over_keeps P (withdrawing now table) withdraws (count table) seen (over_keeps P (watching table) watching_turns (count table) part is))))
    where
      seen : StepSoFar
      seen = over (watching table) (count table) part

pub ticked_keeps : (P : StepSoFar → Type 0) (now : ℕ) → ((place : ℕ) (part : StepSoFar) → P part → P (known_signal_ticking now place part))
    → ((place : ℕ) (part : StepSoFar) → P part → P (known_point_ticking now place part))
    → ((place : ℕ) (part : StepSoFar) → P part → P (detector_ticking now place part)) → (input : Input) (part : StepSoFar) → P part → P (ticked now input part)
unfolding ticked
ticked_keeps P now signals points detectors Tick part is = over_keeps P (detector_ticking now) detectors (length part.ixl.detectors) _
    (over_keeps P (known_point_ticking now) points (length part.ixl.known_points) _ (over_keeps P (known_signal_ticking now) signals (length part.ixl.known_signals) part is))
ticked_keeps P now signals points detectors (Datagram bytes) part is = is
ticked_keeps P now signals points detectors (Commands command) part is = is
