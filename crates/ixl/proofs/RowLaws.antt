-- What rows of bits say of the lists of a row.
use Rattle.std.proofs.Common.{inl, inr, ◌≡◌, ◌⊎◌, ◌↔◌, ℕ, zero, suc, ◌<◌, ◌≤◌, Bool, true, false, not, List, [], ◌∷◌, length, get_or, Some, refl, ap, sym, ◌∙◌, subst, arith, ⊎_elim}
use Rattle.std.specs.Prelude.{◌&&◌, ◌==◌, nat_lt, slice_get, IsTrue}
use Rattle.std.specs.FinSet.{contains}
use Rattle.std.specs.List.{Contains, list_all}
use Rattle.std.proofs.lemmas.Bool.{false≢true, eqb-true, eqb-false, le-ltb}
use Rattle.std.proofs.lemmas.Option.{slice_get-get_or, slice_get_past}
use Rattle.std.proofs.lemmas.Option.{same_Some}
use Rattle.ixl_state.specs.bit_row.Places.{Has, IsPart, Places}
use Rattle.ixl_state.specs.sci_telegram.declared.message.Side.{Side}
use Rattle.ixl_state.specs.sci_telegram.declared.message.Side.TheVariants as sides
use Rattle.ixl_state.specs.release.Passage.{PassageState, is_freeable}
use Rattle.ixl_state.specs.ixl_spec.declared.phase.Phase.TheVariants as phase
use Rattle.ixl_state.specs.ixl_spec.Table.{Need, Row, Table, at, passes}
use Rattle.ixl_state.specs.ixl_spec.State.{IxlState, RouteState}
use Rattle.ixl_state.specs.ixl_spec.Rules.{frees_next, is_over_clear, none_seen}
use Rattle.ixl_state.specs.ixl_spec.View.{all_known, freed_sections, is_clear, is_known, is_set}
use Rattle.ixl_state.specs.ixl_known.Field.{FieldState, Rest, kept}
use Rattle.ixl_state.specs.State.{AtRoute, HasRoute, StateView, field_of, rest_of}
use Rattle.ixl_state.specs.ixl_table.Table.{AreNeededAt, IsSetOf, as_point, required}

-- ---- tests

-- two tests that pass together are the same
pub same_test : (a b : Bool) → (a ≡ true → b ≡ true) → (b ≡ true → a ≡ true) → a ≡ b
same_test true b there back = sym (there refl)
same_test false true there back = back refl
same_test false false there back = refl

pub and_yes : (a b : Bool) → a && b ≡ true → (a ≡ true) × (b ≡ true)
and_yes true b is = (refl, is)
and_yes false b is = absurd (false≢true is)

pub and_shown : (a b : Bool) → a ≡ true → b ≡ true → a && b ≡ true
and_shown true b one other = other
and_shown false b one other = absurd (false≢true one)

-- the second of two tests is looked at where the first passes
pub and_then : (value test other first second : Bool) → value ≡ other → test ≡ true → test ≡ first → other ≡ second → value ≡ (first && second)
and_then value test other first second is passed one two = is ∙ two ∙ sym (ap (λ b. b && second) (sym one ∙ passed))

-- ---- lists

-- two rows of one route are the same
pub same_row : (rows : List Row) (number : ℕ) (one row : Row) → slice_get rows number ≡ Some one → slice_get rows number ≡ Some row → one ≡ row
same_row rows number one row is also = same_Some _ _ (sym is ∙ also)

-- a fact of a route, read of its row and of what is kept of it
pub for_route : {A : Type 0} (read : Row → RouteState → A) (value : A) (rows : List Row) (number : ℕ) (one row : Row) (old route : RouteState) → value ≡ read one old →
    slice_get rows number ≡ Some one → slice_get rows number ≡ Some row → old ≡ route → value ≡ read row route
for_route read value rows number one row old route is at also same = is ∙ ap (λ (r : Row). read r old) (same_row rows number one row at also) ∙ ap (read row) same

-- a test of what stands at a place
pub at_place : {A : Type 0} (list : List A) (place : ℕ) (one : A) (test : A → Bool) → slice_get list place ≡ Some one → test one ≡ at list place test
unfolding at
at_place list place one test is = sym (ap (passes test) is)

pub contains-none : {A : Type 0} (x : A) → Contains [] x → ⊥
contains-none x h = absurd (omega (arith, h.1))

pub contains-here : {A : Type 0} (x : A) (xs : List A) → Contains (x ∷ xs) x
contains-here x xs = (0, omega arith, refl)

pub contains-there : {A : Type 0} (x y : A) (xs : List A) → Contains xs y → Contains (x ∷ xs) y
contains-there x y xs (k, lt, at) = (suc k, omega (arith, lt), at)

pub contains-cases : {A : Type 0} (x y : A) (xs : List A) → Contains (x ∷ xs) y → (x ≡ y) ⊎ Contains xs y
contains-cases x y xs (zero, lt, at) = inl at
contains-cases x y xs (suc k, lt, at) = inr (k, omega (arith, lt), at)

-- a test of all that a list has
pub all_pass : {A : Type 0} (test : A → Bool) (list : List A) → list_all test list ≡ true → (one : A) → Contains list one → test one ≡ true
all_pass test [] is one has = absurd (contains-none one has)
all_pass test (first ∷ others) is one has =
    ⊎_elim (λ e. subst (λ one. test one ≡ true) e (and_yes _ _ is).0) (λ later. all_pass test others (and_yes _ _ is).1 one later) (contains-cases first one others has)

pub pass_all : {A : Type 0} (test : A → Bool) (list : List A) → ((one : A) → Contains list one → test one ≡ true) → list_all test list ≡ true
pass_all test [] each = refl
pass_all test (first ∷ others) each = and_shown _ _ (each first (contains-here first others)) (pass_all test others (λ one has. each one (contains-there first one others has)))

-- all that a row of bits has is in another, where all of the list pass
pub set_passes : (test : ℕ → Bool) (list : List ℕ) (row passing : Places) (is_part : Bool) → IsSetOf list row → ((n : ℕ) → contains passing n ≡ test n) → IsTrue is_part ↔ IsPart row passing → is_part ≡ list_all test list
set_passes test list row passing is_part set passes part = same_test _ _
    (λ is. pass_all test list (λ one has. sym (passes one) ∙ part.0 is one ((set one).1 has)))
    (λ is. part.1 (λ n has. passes n ∙ all_pass test list is n ((set n).0 has)))

-- ---- points

known_needs : (test : ℕ → Side → Bool) (needs : List Need) → list_all (λ need. test need.point need.side) needs ≡ true → (point : ℕ) (side : Side) → Contains (required needs) (as_point point, side) → test point side ≡ true
known_needs test [] is point side has = absurd (contains-none _ has)
known_needs test (first ∷ others) is point side has =
    ⊎_elim (λ e. subst (λ s. test point s ≡ true) (ap (λ pair. pair.1) e) (subst (λ k. test k first.side ≡ true) (ap (λ pair. pair.0.0) e) (and_yes _ _ is).0))
    (λ later. known_needs test others (and_yes _ _ is).1 point side later) (contains-cases _ _ (required others) has)

needs_known : (test : ℕ → Side → Bool) (needs : List Need) → ((point : ℕ) (side : Side) → Contains (required needs) (as_point point, side) → test point side ≡ true) → list_all (λ need. test need.point need.side) needs ≡ true
needs_known test [] each = refl
needs_known test (first ∷ others) each = and_shown _ _ (each first.point first.side (contains-here _ (required others)))
    (needs_known test others (λ point side has. each point side (contains-there _ _ (required others) has)))

-- the points that are needed at each side are known there
pub points_known : (ixl : IxlState) (needs : List Need) (right left known_right known_left : Places) (is_right is_left : Bool) →
    AreNeededAt needs sides.Right right → AreNeededAt needs sides.Left left →
    ((point : ℕ) → contains known_right point ≡ is_known ixl point sides.Right) → ((point : ℕ) → contains known_left point ≡ is_known ixl point sides.Left) →
    IsTrue is_right ↔ IsPart right known_right → IsTrue is_left ↔ IsPart left known_left → (is_right && is_left) ≡ all_known ixl needs
points_known ixl needs right left known_right known_left is_right is_left needed_right needed_left knows_right knows_left part_right part_left = same_test _ _
    (λ is. needs_known (is_known ixl) needs (each (and_yes _ _ is).0 (and_yes _ _ is).1))
    (λ is. and_shown _ _
    (part_right.1 (λ point has. knows_right point ∙ known_needs (is_known ixl) needs is point sides.Right ((needed_right point).0 has)))
    (part_left.1 (λ point has. knows_left point ∙ known_needs (is_known ixl) needs is point sides.Left ((needed_left point).0 has))))
  where
    each : is_right ≡ true → is_left ≡ true → (point : ℕ) (side : Side) → Contains (required needs) (as_point point, side) → is_known ixl point side ≡ true
    each yes_right yes_left point sides.Right has = sym (knows_right point) ∙ part_right.0 yes_right point ((needed_right point).1 has)
    each yes_right yes_left point sides.Left has = sym (knows_left point) ∙ part_left.0 yes_left point ((needed_left point).1 has)

-- where those that are needed right aren't, not all are
pub points_unknown : (ixl : IxlState) (needs : List Need) (right known_right : Places) (is_right : Bool) → AreNeededAt needs sides.Right right →
    ((point : ℕ) → contains known_right point ≡ is_known ixl point sides.Right) → IsTrue is_right ↔ IsPart right known_right → is_right ≡ false → is_right ≡ all_known ixl needs
points_unknown ixl needs right known_right is_right needed knows part fails = same_test _ _
    (λ is. absurd (false≢true (sym fails ∙ is)))
    (λ is. part.1 (λ point has. knows point ∙ known_needs (is_known ixl) needs is point sides.Right ((needed point).0 has)))

-- ---- what the field says

-- what is read of the field is read of the state
pub of_field : {A : Type 0} (state : StateView) (field : FieldState) (value : A) (read : IxlState → A) → field ≡ field_of state → ((rest : Rest) → value ≡ read (kept field rest)) → value ≡ read state.ixl
of_field state field value read same is = is (rest_of state) ∙ ap (λ (f : FieldState). read (kept f (rest_of state))) same

pub clear_of : {A : Type 0} (state : StateView) (field : FieldState) (value : A) (read : Table → IxlState → A) → field ≡ field_of state → ((table : Table) (rest : Rest) → table.reporters ≡ field.reporters → value ≡ read table (kept field rest)) →
    value ≡ read state.sited.table state.ixl
clear_of state field value read same is = of_field state field value (read state.sited.table) same (λ rest. is state.sited.table rest (ap (λ (f : FieldState). f.reporters) (sym same)))

pub over_clear : (state : StateView) (sections : List ℕ) (point : ℕ) (value : Bool) → sections ≡ state.sited.table.point_sections → point < length sections → value ≡ is_clear state.sited.table state.ixl (get_or sections point 0) →
    value ≡ is_over_clear state.sited.table state.ixl point
over_clear state sections point value are within is =
    is ∙ at_place sections point (get_or sections point 0) (is_clear state.sited.table state.ixl) (slice_get-get_or sections point 0 within) ∙ ap (λ list. at list point (is_clear state.sited.table state.ixl)) are

pub not_over_clear : (state : StateView) (sections : List ℕ) (point : ℕ) → sections ≡ state.sited.table.point_sections → length sections ≤ point → nat_lt point (length sections) ≡ is_over_clear state.sited.table state.ixl point
unfolding at
not_over_clear state sections point are beyond =
    le-ltb point (length sections) beyond ∙ sym (ap (λ found. passes (is_clear state.sited.table state.ixl) found) (slice_get_past sections point beyond)) ∙ ap (λ list. at list point (is_clear state.sited.table state.ixl)) are

-- a test of the section in which a point lies
pub own_section : (test : ℕ → Bool) (list sections : List ℕ) (point : ℕ) (value : Bool) → sections ≡ list → point < length sections → value ≡ test (get_or sections point 0) → value ≡ at list point test
own_section test list sections point value are within is =
    is ∙ at_place sections point (get_or sections point 0) test (slice_get-get_or sections point 0 within) ∙ ap (λ one. at one point test) are

pub no_section : (test : ℕ → Bool) (list sections : List ℕ) (point : ℕ) → sections ≡ list → length sections ≤ point → nat_lt point (length sections) ≡ at list point test
unfolding at
no_section test list sections point are beyond =
    le-ltb point (length sections) beyond ∙ sym (ap (passes test) (slice_get_past sections point beyond)) ∙ ap (λ one. at one point test) are

-- ---- passage

is_false : (b : Bool) → (b ≡ true → ⊥) → not b ≡ true
is_false true none = absurd (none refl)
is_false false none = refl

not_both : (b : Bool) → not b ≡ true → b ≡ true → ⊥
not_both true fails holds = false≢true fails
not_both false fails holds = false≢true holds

seen_nowhere : (n : ℕ) (passage : PassageState) → ((place : ℕ) → Has passage.seen place → ⊥) → none_seen n passage ≡ true
seen_nowhere zero passage none = refl
seen_nowhere (suc n) passage none = and_shown _ _ (is_false (contains passage.seen n) (none n)) (seen_nowhere n passage none)

unseen : (n : ℕ) (passage : PassageState) (place : ℕ) → none_seen n passage ≡ true → place < n → Has passage.seen place → ⊥
unseen zero passage place is within has = absurd (omega (arith, within))
unseen (suc n) passage place is within has = cases (place == n) refl (λ less. unseen n passage place (and_yes _ _ is).1 less has) where
  cases : (b : Bool) → (place == n) ≡ b → (place < n → ⊥) → ⊥
  cases true same before = not_both (contains passage.seen n) (and_yes _ _ is).0 (subst (λ k. Has passage.seen k) (eqb-true place n same) has)
  cases false other before = before (omega (arith, within, eqb-false place n other))

-- where no section is seen none of the route's is
pub none_reached : (n : ℕ) (passage : PassageState) (is_reached : Bool) → IsTrue is_reached ↔ ((k : ℕ) × Has passage.seen k) → ((place : ℕ) → Has passage.seen place → place < n) → not is_reached ≡ none_seen n passage
none_reached n passage is_reached reached within = same_test _ _
    (λ fails. seen_nowhere n passage (λ place has. not_both is_reached fails (reached.1 (place, has))))
    (λ is. is_false is_reached (λ holds. let some = reached.0 holds in unseen n passage some.0 is (within some.0 some.1) some.1))

-- the next section of a route of which so many are freed
pub next_frees : (table : Table) (ixl : IxlState) (row : Row) (route : RouteState) (clock done section : ℕ) (freeable clear : Bool) → route.phase ≡ phase.Ended clock done → slice_get row.sections done ≡ Some section →
    freeable ≡ is_freeable route.passage done true → clear ≡ is_clear table ixl section → (freeable && clear) ≡ frees_next table ixl row route route.phase
next_frees table ixl row route clock done section freeable clear is at_section one other =
    ap (λ b. b && clear) one ∙ ap (λ b. is_freeable route.passage done true && b) (other ∙ at_place row.sections done section (is_clear table ixl) at_section) ∙ sym (ap (frees_next table ixl row route) is)

-- of a route whose authority has ended not all sections are freed
pub next_stands : (state : StateView) (number : ℕ) (found : Row) (sections : List ℕ) (kept : RouteState) (clock done : ℕ) → HasRoute state number → slice_get state.sited.table.rows number ≡ Some found → sections ≡ found.sections →
    AtRoute state number (λ row route. kept ≡ route) → kept.phase ≡ phase.Ended clock done → AtRoute state number (λ row route. IsTrue (is_set route.phase) → freed_sections route.phase < length row.sections) → done < length sections
next_stands state number found sections kept clock done there row_is are is ended left =
    subst (λ (list : List ℕ). done < length list) (sym (are ∙ ap (λ (r : Row). r.sections) (same_row state.sited.table.rows number found there.0 row_is there.2.0)))
    (subst (λ p. IsTrue (is_set p) → freed_sections p < length there.0.sections) (ap (λ (r : RouteState). r.phase) (sym (is there.0 there.1 there.2)) ∙ ended) (left there.0 there.1 there.2) refl)
