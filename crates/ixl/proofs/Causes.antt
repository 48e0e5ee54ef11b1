-- Why a command is refused, test by test.
use Rattle.std.proofs.Common.{◌≡◌, ℕ, zero, suc, ◌<◌, Bool, true, false, not, if◌then◌else◌, List, [], ◌∷◌, length, get_or, drop, arith, refl, ap, sym, ◌∙◌, subst}
use Rattle.std.specs.Prelude.{◌&&◌, ◌||◌, Option, Some, None, slice_get}
use Rattle.std.specs.List.{list_all}
use Rattle.std.specs.Option.{option_or}
use Rattle.std.proofs.lemmas.Bool.{true≢false, false≢true}
use Rattle.ixl_state.specs.sci_telegram.declared.message.Side.{Side}
use Rattle.ixl_state.specs.layout.declared.ids.PointId.{PointId}
use Rattle.ixl_state.specs.ixl_spec.closings.Closed.{is_closed}
use Rattle.ixl_state.specs.ixl_spec.closings.declared.thing.Thing.{Thing}
use Rattle.ixl_state.specs.ixl_spec.closings.declared.thing.Thing.TheVariants.{Point}
use Rattle.ixl_state.specs.ixl_spec.Commands.{cancel_refusal, closed_refusal, conflict_told, first_failing, held_told, is_ended, is_point_wanting, locking_refusal, moving_refusal, own_section_refusal, refused_where, release_refusal, request_refusal}
use Rattle.ixl_state.specs.ixl_spec.Operations.{counts_as_closed, first_holding, things_used}
use Rattle.ixl_state.specs.ixl_spec.State.{IxlState, RouteState}
use Rattle.ixl_state.specs.ixl_spec.Table.{Need, Row, Table}
use Rattle.ixl_state.specs.ixl_spec.View.{first_blocking, is_at_known_stop, is_holding, is_occupied, is_point_available, is_set, is_signal_ready, is_unknown}
use Rattle.ixl_state.specs.ixl_spec.declared.command.Refusal.{Refusal}
use Rattle.ixl_state.specs.ixl_spec.declared.command.Refusal.TheVariants as refusals
use Rattle.ixl.specs.inside.Parts.{first_where}

abbrev is_there : {A : Type 0} → Option A → Bool
is_there None = false
is_there (Some one) = true

none_some : {A : Type 0} {one : A} → None ≡ Some one → ⊥
none_some is = false≢true (ap is_there is)

none_refused : {refusal : Refusal} → Some refusal ≡ None → ⊥
none_refused is = true≢false (ap is_there is)

-- ---- the first of a list that passes a test

-- it isn't the next one
pub not_next : {A : Type 0} (passes : A → Bool) (list : List A) (place : ℕ) (one d : A) → place < length list → one ≡ get_or list place d → passes one ≡ false →
    first_where passes (drop (suc place) list) ≡ first_where passes (drop place list)
not_next {A} passes [] place one d within is fails = absurd (omega (arith, within))
not_next {A} passes (first ∷ others) zero one d within is fails =
    sym (ap (λ b. if b then Some first else first_where passes others) (subst (λ (o : A). passes o ≡ false) is fails))
not_next {A} passes (first ∷ others) (suc place) one d within is fails = not_next passes others place one d (omega (arith, within)) is fails

-- it is the next one
pub is_next : {A : Type 0} (passes : A → Bool) (list : List A) (place : ℕ) (one d : A) → place < length list → one ≡ get_or list place d → passes one ≡ true →
    Some one ≡ first_where passes (drop place list)
is_next {A} passes [] place one d within is passed = absurd (omega (arith, within))
is_next {A} passes (first ∷ others) zero one d within is passed =
    ap (λ o. Some o) is ∙ sym (ap (λ b. if b then Some first else first_where passes others) (subst (λ (o : A). passes o ≡ true) is passed))
is_next {A} passes (first ∷ others) (suc place) one d within is passed = is_next passes others place one d (omega (arith, within)) is passed

-- ---- told as refusals

abbrev pub told_of : {A : Type 0} → (A → Refusal) → Option A → Option Refusal → Option Refusal
told_of told None otherwise = otherwise
told_of told (Some one) otherwise = Some (told one)

pub failing_is : {A : Type 0} (fails : A → Bool) (told : A → Refusal) (list : List A) (otherwise : Option Refusal) →
    first_failing fails told list otherwise ≡ told_of told (first_where fails list) otherwise
failing_is fails told [] otherwise = refl
failing_is fails told (first ∷ others) otherwise = cases (fails first) (failing_is fails told others otherwise) where
  cases : (b : Bool) → first_failing fails told others otherwise ≡ told_of told (first_where fails others) otherwise →
      (if b then Some (told first) else first_failing fails told others otherwise) ≡ told_of told (if b then Some first else first_where fails others) otherwise
  cases true behind = refl
  cases false behind = behind

abbrev pub is_none_found : {A : Type 0} → Option A → Bool
is_none_found None = true
is_none_found (Some one) = false

pub none_fails : {A : Type 0} (fails : A → Bool) (list : List A) → list_all (λ one. not (fails one)) list ≡ is_none_found (first_where fails list)
none_fails fails [] = refl
none_fails fails (first ∷ others) = cases (fails first) (none_fails fails others) where
  cases : (b : Bool) → list_all (λ one. not (fails one)) others ≡ is_none_found (first_where fails others) →
      (not b && list_all (λ one. not (fails one)) others) ≡ is_none_found (if b then Some first else first_where fails others)
  cases true behind = refl
  cases false behind = behind

-- ---- a request past its first tests

abbrev pub refusal_by : Option ℕ → Option ℕ → Option Need → Bool → Option ℕ → Option Refusal
refusal_by blocking occupied wanting there unknown =
    conflict_told blocking
    (told_of (λ section. refusals.NotClear (record { 0 = section })) occupied
    (told_of (λ (need : Need). refusals.PointUnavailable (record { 0 = need.point })) wanting
    (refused_where (not there) refusals.SignalUnavailable (refused_where (not (is_none_found unknown)) refusals.DetectionDown None))))

not_both : (a b : Bool) → (not a || not b) ≡ not (a && b)
not_both true b = refl
not_both false b = refl

pub locking_is : (now : ℕ) (table : Table) (ixl : IxlState) (number : ℕ) (row : Row) →
    locking_refusal now table ixl number row ≡ refusal_by (first_blocking number row 0 table.rows ixl.routes) (first_where (is_occupied table ixl) row.sections)
    (first_where (is_point_wanting table ixl) row.needs) (is_signal_ready ixl row.entry && is_at_known_stop now ixl row.entry) (first_where (is_unknown table ixl) row.sections)
unfolding locking_refusal
locking_is now table ixl number row = ap (conflict_told (first_blocking number row 0 table.rows ixl.routes))
    (failing_is (is_occupied table ixl) (λ section. refusals.NotClear (record { 0 = section })) row.sections _
    ∙ ap (told_of (λ section. refusals.NotClear (record { 0 = section })) (first_where (is_occupied table ixl) row.sections))
    (failing_is (is_point_wanting table ixl) (λ (need : Need). refusals.PointUnavailable (record { 0 = need.point })) row.needs _
    ∙ ap (told_of (λ (need : Need). refusals.PointUnavailable (record { 0 = need.point })) (first_where (is_point_wanting table ixl) row.needs))
    (ap (λ b. refused_where b refusals.SignalUnavailable (refused_where (not (list_all (λ section. not (is_unknown table ixl section)) row.sections)) refusals.DetectionDown None))
    (not_both (is_signal_ready ixl row.entry) (is_at_known_stop now ixl row.entry))
    ∙ ap (λ b. refused_where (not (is_signal_ready ixl row.entry && is_at_known_stop now ixl row.entry)) refusals.SignalUnavailable (refused_where (not b) refusals.DetectionDown None))
    (none_fails (is_unknown table ixl) row.sections))))

-- it is enough to know the tests up to the one that fails
pub locking_told : (now : ℕ) (table : Table) (ixl : IxlState) (number : ℕ) (row : Row) (blocking occupied : Option ℕ) (wanting : Option Need) (there : Bool) (unknown : Option ℕ) →
    blocking ≡ first_blocking number row 0 table.rows ixl.routes → occupied ≡ first_where (is_occupied table ixl) row.sections → wanting ≡ first_where (is_point_wanting table ixl) row.needs →
    there ≡ (is_signal_ready ixl row.entry && is_at_known_stop now ixl row.entry) → unknown ≡ first_where (is_unknown table ixl) row.sections →
    refusal_by blocking occupied wanting there unknown ≡ locking_refusal now table ixl number row
locking_told now table ixl number row blocking occupied wanting there unknown one two three four five =
    ap (λ b. refusal_by b occupied wanting there unknown) one
    ∙ ap (λ o. refusal_by (first_blocking number row 0 table.rows ixl.routes) o wanting there unknown) two
    ∙ ap (λ w. refusal_by (first_blocking number row 0 table.rows ixl.routes) (first_where (is_occupied table ixl) row.sections) w there unknown) three
    ∙ ap (λ t. refusal_by (first_blocking number row 0 table.rows ixl.routes) (first_where (is_occupied table ixl) row.sections) (first_where (is_point_wanting table ixl) row.needs) t unknown) four
    ∙ ap (λ u. refusal_by (first_blocking number row 0 table.rows ixl.routes) (first_where (is_occupied table ixl) row.sections) (first_where (is_point_wanting table ixl) row.needs)
    (is_signal_ready ixl row.entry && is_at_known_stop now ixl row.entry) u) five
    ∙ sym (locking_is now table ixl number row)

-- ---- what a request that isn't refused has passed

where_passed : (fails : Bool) (told : Refusal) (otherwise : Option Refusal) → refused_where fails told otherwise ≡ None → (fails ≡ false) × (otherwise ≡ None)
where_passed true told otherwise is = cc
where_passed false told otherwise is = (refl, is)

conflict_passed : (blocking : Option ℕ) (otherwise : Option Refusal) → conflict_told blocking otherwise ≡ None → blocking ≡ None
conflict_passed None otherwise is = refl
conflict_passed (Some blocking) otherwise is = cc

pub locking_passed : (now : ℕ) (table : Table) (ixl : IxlState) (number : ℕ) (row : Row) → locking_refusal now table ixl number row ≡ None → first_blocking number row 0 table.rows ixl.routes ≡ None
unfolding locking_refusal
locking_passed now table ixl number row is = conflict_passed (first_blocking number row 0 table.rows ixl.routes) _ is

-- neither of two causes is given
first_passed : (one other : Option Refusal) → option_or one other ≡ None → one ≡ None
first_passed None other is = refl
first_passed (Some one) other is = absurd (none_refused is)

-- the route is there, isn't set, and nothing blocks it
pub record MaySet (table : Table) (ixl : IxlState) (number : ℕ) (row_there : Option Row) (route_there : Option RouteState) : Type 0 where
  pub row : Row
  pub route : RouteState
  pub is_row : row_there ≡ Some row
  pub is_route : route_there ≡ Some route
  pub free : is_set route.phase ≡ false
  pub unblocked : first_blocking number row 0 table.rows ixl.routes ≡ None

pub request_passed : (now : ℕ) (table : Table) (ixl : IxlState) (number : ℕ) (row : Option Row) (route : Option RouteState) → request_refusal now table ixl number row route ≡ None →
    MaySet table ixl number row route
request_passed now table ixl number None route is = absurd (none_refused is)
request_passed now table ixl number (Some row) None is = absurd (none_refused is)
request_passed now table ixl number (Some row) (Some route) is =
    let held = where_passed (is_holding now ixl) refusals.Holding _ is
    in let resumed = where_passed (not ixl.resumed) refusals.NotResumed _ held.1
    in let free = where_passed (is_set route.phase) refusals.AlreadySet _ resumed.1
    in record { row = row; route = route; is_row = refl; is_route = refl; free = free.0; unblocked = locking_passed now table ixl number row (first_passed _ _ free.1) }

-- a route that is cancelled is there
pub cancel_passed : (now : ℕ) (ixl : IxlState) (route : Option RouteState) → cancel_refusal now ixl route ≡ None → (one : RouteState) × (route ≡ Some one)
cancel_passed now ixl None is = absurd (none_refused is)
cancel_passed now ixl (Some route) is = (route, refl)

pub same_route : (one other : RouteState) (found : Option RouteState) → found ≡ Some one → found ≡ Some other → one ≡ other
same_route one other found is also = cc

pub same_row : (one other : Row) (found : Option Row) → found ≡ Some one → found ≡ Some other → one ≡ other
same_row one other found is also = cc

pub get_inside : {A : Type 0} (list : List A) (place : ℕ) (one : A) → slice_get list place ≡ Some one → place < length list
get_inside [] place one is = absurd (none_some is)
get_inside (first ∷ others) zero one is = omega arith
get_inside (first ∷ others) (suc place) one is = let within = get_inside others place one is in omega (arith, within)

-- ---- what is told past the first two tests

pub passed_to : (a b : Bool) (one other : Refusal) (rest : Option Refusal) → a ≡ false → b ≡ false → rest ≡ refused_where a one (refused_where b other rest)
passed_to true b one other rest is also = cc
passed_to false true one other rest is also = cc
passed_to false false one other rest is also = refl

pub cancel_told : (now : ℕ) (ixl : IxlState) (found : Option RouteState) (route : RouteState) (set : Bool) → found ≡ Some route → is_holding now ixl ≡ false → ixl.resumed ≡ true → is_set route.phase ≡ set →
    refused_where (not set) refusals.NotSet None ≡ cancel_refusal now ixl found
cancel_told now ixl found route set is over resumed phase_is =
    ap (λ b. refused_where (not b) refusals.NotSet None) (sym phase_is)
    ∙ passed_to (is_holding now ixl) (not ixl.resumed) refusals.Holding refusals.NotResumed (refused_where (not (is_set route.phase)) refusals.NotSet None) over (ap not resumed)
    ∙ ap (cancel_refusal now ixl) (sym is)

-- what stands against a route that isn't set: its locking, or else what is closed
abbrev pub past_set : ℕ → Table → IxlState → ℕ → Row → Option Refusal
past_set now table ixl number row = option_or (locking_refusal now table ixl number row) (closed_refusal table ixl number row)

pub request_told : (now : ℕ) (table : Table) (ixl : IxlState) (number : ℕ) (found_row : Option Row) (found : Option RouteState) (row : Row) (route : RouteState) (set : Bool) →
    found_row ≡ Some row → found ≡ Some route → is_holding now ixl ≡ false → ixl.resumed ≡ true → is_set route.phase ≡ set →
    refused_where set refusals.AlreadySet (past_set now table ixl number row) ≡ request_refusal now table ixl number found_row found
request_told now table ixl number found_row found row route set is_row is over resumed phase_is =
    ap (λ b. refused_where b refusals.AlreadySet (past_set now table ixl number row)) (sym phase_is)
    ∙ passed_to (is_holding now ixl) (not ixl.resumed) refusals.Holding refusals.NotResumed (refused_where (is_set route.phase) refusals.AlreadySet (past_set now table ixl number row)) over (ap not resumed)
    ∙ ap (λ f. request_refusal now table ixl number f (Some route)) (sym is_row) ∙ ap (request_refusal now table ixl number found_row) (sym is)

-- ---- what refuses every command for a route

abbrev pub of_any : Bool → Bool → Option Refusal → Option Refusal
of_any holding resumed rest = refused_where holding refusals.Holding (refused_where (not resumed) refusals.NotResumed rest)

pub any_refuses : (holding resumed : Bool) (cause : Refusal) (rest : Option Refusal) → Some cause ≡ of_any holding resumed None → Some cause ≡ of_any holding resumed rest
any_refuses true resumed cause rest is = is
any_refuses false false cause rest is = is
any_refuses false true cause rest is = absurd (none_refused is)

pub any_allows : (holding resumed : Bool) → None ≡ of_any holding resumed None → (holding ≡ false) × (resumed ≡ true)
any_allows true resumed is = absurd (none_some is)
any_allows false false is = absurd (none_some is)
any_allows false true is = (refl, refl)

pub any_request_refused : (now : ℕ) (table : Table) (ixl : IxlState) (number : ℕ) (found_row : Option Row) (found : Option RouteState) (row : Row) (route : RouteState) (cause : Refusal) → found_row ≡ Some row → found ≡ Some route →
    Some cause ≡ of_any (is_holding now ixl) ixl.resumed None → Some cause ≡ request_refusal now table ixl number found_row found
any_request_refused now table ixl number found_row found row route cause is_row is told =
    any_refuses (is_holding now ixl) ixl.resumed cause (refused_where (is_set route.phase) refusals.AlreadySet (past_set now table ixl number row)) told
    ∙ ap (λ f. request_refusal now table ixl number f (Some route)) (sym is_row) ∙ ap (request_refusal now table ixl number found_row) (sym is)

pub any_cancel_refused : (now : ℕ) (ixl : IxlState) (found : Option RouteState) (route : RouteState) (cause : Refusal) → found ≡ Some route →
    Some cause ≡ of_any (is_holding now ixl) ixl.resumed None → Some cause ≡ cancel_refusal now ixl found
any_cancel_refused now ixl found route cause is told =
    any_refuses (is_holding now ixl) ixl.resumed cause (refused_where (not (is_set route.phase)) refusals.NotSet None) told ∙ ap (cancel_refusal now ixl) (sym is)

-- ---- of a release

-- what stands against the release of a route that is set
abbrev pub past_unset : RouteState → Option Refusal
past_unset route = refused_where (not (route.cancelled && is_ended route.phase)) refusals.NotEnded None

pub release_told : (now : ℕ) (ixl : IxlState) (found : Option RouteState) (route : RouteState) (set : Bool) → found ≡ Some route → is_holding now ixl ≡ false → ixl.resumed ≡ true → is_set route.phase ≡ set →
    refused_where (not set) refusals.NotSet (past_unset route) ≡ release_refusal now ixl found
release_told now ixl found route set is over resumed phase_is =
    ap (λ b. refused_where (not b) refusals.NotSet (past_unset route)) (sym phase_is)
    ∙ passed_to (is_holding now ixl) (not ixl.resumed) refusals.Holding refusals.NotResumed (refused_where (not (is_set route.phase)) refusals.NotSet (past_unset route)) over (ap not resumed)
    ∙ ap (release_refusal now ixl) (sym is)

pub any_release_refused : (now : ℕ) (ixl : IxlState) (found : Option RouteState) (route : RouteState) (cause : Refusal) → found ≡ Some route →
    Some cause ≡ of_any (is_holding now ixl) ixl.resumed None → Some cause ≡ release_refusal now ixl found
any_release_refused now ixl found route cause is told =
    any_refuses (is_holding now ixl) ixl.resumed cause (refused_where (not (is_set route.phase)) refusals.NotSet (past_unset route)) told ∙ ap (release_refusal now ixl) (sym is)

-- a route that is released is there
pub release_passed : (now : ℕ) (ixl : IxlState) (route : Option RouteState) → release_refusal now ixl route ≡ None → (one : RouteState) × (route ≡ Some one)
release_passed now ixl None is = absurd (none_refused is)
release_passed now ixl (Some route) is = (route, refl)

-- what a command closes or opens is there
pub thing_passed : (there : Bool) (cause : Refusal) (otherwise : Option Refusal) → refused_where (not there) cause otherwise ≡ None → there ≡ true
thing_passed true cause otherwise is = refl
thing_passed false cause otherwise is = absurd (none_refused is)

pub thing_missing : (there : Bool) (otherwise : Option Refusal) → there ≡ false → Some refusals.NoSuchThing ≡ refused_where (not there) refusals.NoSuchThing otherwise
thing_missing there otherwise is = ap (λ b. refused_where (not b) refusals.NoSuchThing otherwise) (sym is)

pub thing_there : (there : Bool) (otherwise : Option Refusal) → there ≡ true → otherwise ≡ refused_where (not there) refusals.NoSuchThing otherwise
thing_there there otherwise is = ap (λ b. refused_where (not b) refusals.NoSuchThing otherwise) (sym is)

-- ---- of a request, at last

pub closed_told : (table : Table) (ixl : IxlState) (number : ℕ) (row : Row) (first : Option Thing) → first ≡ first_where (counts_as_closed table ixl) (things_used number row) →
    told_of refusals.Closed first None ≡ closed_refusal table ixl number row
unfolding closed_refusal
closed_told table ixl number row first is =
    ap (λ one. told_of refusals.Closed one None) is ∙ sym (failing_is (counts_as_closed table ixl) refusals.Closed (things_used number row) None)

-- ---- of a move

abbrev pub moving_by : PointId → Side → Bool → Option ℕ → Bool → Option Refusal → Option Refusal
moving_by point side closed holder available own =
    refused_where closed (refusals.Closed (Point point side)) (held_told holder (refused_where (not available) (refusals.PointUnavailable point) own))

-- it is enough to know the tests up to the one that fails
pub moving_told : (table : Table) (ixl : IxlState) (point : PointId) (side : Side) (closed : Bool) (holder : Option ℕ) (available : Bool) (own : Option Refusal) →
    closed ≡ is_closed ixl.closed (Point point side) → holder ≡ first_holding table ixl point.0 → available ≡ is_point_available ixl point.0 → own ≡ own_section_refusal table ixl point.0 →
    moving_by point side closed holder available own ≡ moving_refusal table ixl point side
unfolding moving_refusal
moving_told table ixl point side closed holder available own one two three four =
    ap (λ c. moving_by point side c holder available own) one
    ∙ ap (λ h. moving_by point side (is_closed ixl.closed (Point point side)) h available own) two
    ∙ ap (λ a. moving_by point side (is_closed ixl.closed (Point point side)) (first_holding table ixl point.0) a own) three
    ∙ ap (moving_by point side (is_closed ixl.closed (Point point side)) (first_holding table ixl point.0) (is_point_available ixl point.0)) four
