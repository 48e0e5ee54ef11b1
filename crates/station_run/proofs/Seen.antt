-- What is seen of a world, as lines.
use Rattle.std.proofs.Common.{◌≡◌, ◌∙◌, ◌+◌, ◌-◌, ◌<◌, ◌≤◌, ℕ, zero, suc, refl, sym, ap, subst, Bool, true, false, List, [], ◌∷◌, ◌++◌, drop, length, Option, Some, None, arith}
use Rattle.std.specs.Prelude.{◌==◌, ◌&&◌, ◌||◌, ◌↔◌, slice_get, IfSome, IsTrue, if◌then◌else◌}
use Rattle.std.specs.List.{Contains, list_any}
use Rattle.std.specs.Option.{option_map, option_map_or}
use Rattle.std.proofs.lemmas.Bool.{eq-eqb, eqb-true, false≢true}
use Rattle.std.proofs.lemmas.List.{append_assoc, append-nil}
use Rattle.std.proofs.lemmas.Option.{slice_get_past}
use Rattle.station_record.specs.replay.ixl_spec.State.{IxlState, RouteState}
use Rattle.station_record.specs.replay.ixl_spec.Table.{Row, at}
use Rattle.station_record.specs.replay.ixl_spec.Due.{HoldsSection}
use Rattle.station_record.specs.replay.ixl_spec.View.{freed_sections, holds_section, is_set}
use Rattle.station_record.specs.replay.ixl_spec.declared.phase.Phase.{Phase}
use Rattle.station_record.specs.replay.layout.declared.ids.RouteId.{RouteId}
use Rattle.station_record.specs.replay.simulator.ixl_state.ixl_known.Field.{FieldState, Rest, kept}
use Rattle.station_record.specs.replay.simulator.ixl_state.State.{AtRoute, HasRoute, StateView, field_of, rest_of}
use Rattle.station_panel.specs.panel_desk.declared.panel_line.PanelLine.{PanelLine}
use Rattle.station_run.specs.Panel.{each, is_released, lock_of, locking, released_at}

-- ---- what stands at a place

pub mapped : {A B : Type 0} (f : A → B) (one : Option A) (result other : B) → option_map f one ≡ Some result → result ≡ option_map_or f one other
mapped f None result other is = cc
mapped f (Some one) result other is = cc

pub there : {A : Type 0} (one : Option A) (result other : A) → one ≡ Some result → result ≡ option_map_or (λ a. a) one other
there None result other is = cc
there (Some one) result other is = cc

pub of_nodes : (holds : IxlState → Type 0) (state : StateView) (field : FieldState) → field ≡ field_of state → ((rest : Rest) → holds (kept field rest)) → holds state.ixl
of_nodes holds state field is says = (subst (λ (f : FieldState). (rest : Rest) → holds (kept f rest)) is says) (rest_of state)

pub at_read : {A : Type 0} (list : List A) (place : ℕ) (told : Bool) (test : A → Bool) → place < length list → IfSome (slice_get list place) (λ one. told ≡ test one) → told ≡ at list place test
unfolding at
at_read [] place told test below says = absurd (omega (arith, below))
at_read (first ∷ others) zero told test below says = says
at_read (first ∷ others) (suc place) told test below says = at_read others place told test (omega (arith, below)) says

pub at_past : {A : Type 0} (list : List A) (place : ℕ) (test : A → Bool) → length list ≤ place → false ≡ at list place test
unfolding at
at_past [] place test beyond = refl
at_past (first ∷ others) zero test beyond = absurd (omega (arith, beyond))
at_past (first ∷ others) (suc place) test beyond = at_past others place test (omega (arith, beyond))

-- ---- a route that was released

pub released_there : (routes : List RouteState) (place : ℕ) (seen found : RouteState) (told : Bool) → slice_get routes place ≡ Some found → seen ≡ found → told ≡ is_released seen → told ≡ released_at routes place
released_there routes place seen found told at same is =
    is ∙ ap is_released same ∙ sym (ap (λ (kept : Option RouteState). option_map_or is_released kept false) at)

pub released_past : (routes : List RouteState) (place : ℕ) → length routes ≤ place → false ≡ released_at routes place
released_past routes place beyond = sym (ap (λ (kept : Option RouteState). option_map_or is_released kept false) (slice_get_past routes place beyond))

-- ---- routes that lock a section

-- what is decided alike is the same
same_test : (a b : Bool) → (IsTrue a → IsTrue b) → (IsTrue b → IsTrue a) → a ≡ b
same_test true b to from = sym (to refl)
same_test false true to from = from refl
same_test false false to from = refl

has_one : (section : ℕ) (list : List ℕ) → IsTrue (list_any (λ other. other == section) list) → Contains list section
has_one section [] is = absurd (false≢true is)
has_one section (first ∷ others) is = by_first (first == section) refl is (has_one section others) where
  by_first : (b : Bool) → first == section ≡ b → IsTrue (b || list_any (λ other. other == section) others) → (IsTrue (list_any (λ other. other == section) others) → Contains others section) → Contains (first ∷ others) section
  by_first true same passed behind = (0, omega arith, eqb-true first section same)
  by_first false differs passed behind = let there = behind passed in (suc there.0, omega (arith, there.1), there.2)

one_passes : (section : ℕ) (list : List ℕ) → Contains list section → IsTrue (list_any (λ other. other == section) list)
one_passes section [] has = absurd (omega (arith, has.1))
one_passes section (first ∷ others) (zero, below, at) = ap (λ b. b || list_any (λ other. other == section) others) (eq-eqb first section at)
one_passes section (first ∷ others) (suc place, below, at) = or_true (first == section) _ (one_passes section others (place, omega (arith, below), at)) where
  or_true : (a b : Bool) → IsTrue b → IsTrue (a || b)
  or_true true b is = refl
  or_true false b is = is

-- the sections that a route locks, as the test of one
pub locked_is : (row : Row) (phase : Phase) (section : ℕ) (told : Bool) → IsTrue told ↔ HoldsSection row phase section → told ≡ holds_section row phase section
locked_is row phase section told same = same_test told (holds_section row phase section)
    (λ is. let holds = same.0 is in both (is_set phase) _ holds.0 (one_passes section _ holds.1))
    (λ is. same.1 (apart (is_set phase) is))
  where
    both : (a b : Bool) → IsTrue a → IsTrue b → IsTrue (a && b)
    both a b is also = ap (λ c. c && b) is ∙ also

    apart : (a : Bool) → IsTrue (a && list_any (λ other. other == section) (drop (freed_sections phase) row.sections)) → IsTrue a × Contains (drop (freed_sections phase) row.sections) section
    apart true is = (refl, has_one section _ is)
    apart false is = absurd (false≢true is)

-- what is told of a route of the table
pub locked_there : (state : StateView) (number section : ℕ) (told : Bool) → HasRoute state number → AtRoute state number (λ row kept. IsTrue told ↔ HoldsSection row kept.phase section)
    → told ≡ lock_of (slice_get state.sited.table.rows number) (slice_get state.ixl.routes number) section
locked_there state number section told has same =
    locked_is has.0 has.1.phase section told (same has.0 has.1 has.2)
    ∙ sym (ap (λ (r : Option Row). lock_of r (Some has.1) section) has.2.0)
    ∙ sym (ap (λ (r : Option RouteState). lock_of (slice_get state.sited.table.rows number) r section) has.2.1)

-- one more route doesn't lock it
pub locking_next : (rows : List Row) (routes : List RouteState) (section number all : ℕ) (told : Bool) (wanted : Option RouteId) → number < all
    → told ≡ lock_of (slice_get rows number) (slice_get routes number) section → told ≡ false
    → wanted ≡ locking rows routes section number (all - number) → wanted ≡ locking rows routes section (number + 1) (all - (number + 1))
locking_next rows routes section number all told wanted below told_is none before =
    let more = all - (number + 1) in
    let here : all - number ≡ suc more = omega (arith, below) in
    let next : suc number ≡ number + 1 = omega arith in
    before
    ∙ ap (locking rows routes section number) here
    ∙ ap (λ (locks : Bool). if locks then Some (record { 0 = number }) else locking rows routes section (suc number) more) (sym told_is ∙ none)
    ∙ ap (λ n. locking rows routes section n more) next

-- ---- lines one after another

each_next : (of : ℕ → PanelLine) (place all : ℕ) → place < all → each of place (all - place) ≡ of place ∷ each of (place + 1) (all - (place + 1))
each_next of place all below =
    let here : all - place ≡ suc (all - (place + 1)) = omega (arith, below) in
    let next : suc place ≡ place + 1 = omega arith in
    ap (each of place) here ∙ ap (λ p. of place ∷ each of p (all - (place + 1))) next

-- one more was added
pub one_added : (of : ℕ → PanelLine) (place all : ℕ) (so_far new wanted : List PanelLine) (one : PanelLine) → place < all → one ≡ of place → new ≡ so_far ++ one ∷ [] → so_far ++ each of place (all - place) ≡ wanted
    → new ++ each of (place + 1) (all - (place + 1)) ≡ wanted
one_added of place all so_far new wanted one below one_is new_is before =
    let rest = each of (place + 1) (all - (place + 1)) in
    ap (λ l. l ++ rest) new_is
    ∙ append_assoc so_far (one ∷ []) rest
    ∙ ap (λ o. so_far ++ o ∷ rest) one_is
    ∙ ap (λ l. so_far ++ l) (sym (each_next of place all below))
    ∙ before

pub all_added : (of : ℕ → PanelLine) (place all : ℕ) (so_far wanted : List PanelLine) → all ≤ place → so_far ++ each of place (all - place) ≡ wanted → so_far ≡ wanted
all_added of place all so_far wanted above before =
    let done : all - place ≡ 0 = omega (arith, above) in
    sym (append-nil so_far) ∙ ap (λ l. so_far ++ l) (sym (ap (each of place) done)) ∙ before
