-- What the controllers tell, as facts of all that is kept.
use Rattle.std.proofs.Common.{◌≡◌, ◌<◌, ◌≤◌, ℕ, zero, suc, refl, sym, ap, subst, Bool, false, List, [], ◌∷◌, length, Some, arith}
use Rattle.std.specs.Prelude.{nat_lt, slice_get, IfSome}
use Rattle.std.proofs.lemmas.Bool.Decides.{nat_tests}
use Rattle.ixl_state.specs.ixl_spec.State.{IxlState}
use Rattle.ixl_state.specs.ixl_spec.Table.{Table, at}
use Rattle.ixl_state.specs.ixl_known.Field.{FieldState, Rest, kept}
use Rattle.ixl_state.specs.State.{StateView, field_of, rest_of}

pub in_state : (holds : Table → IxlState → Type 0) (state : StateView) (field : FieldState) → field ≡ field_of state →
    ((table : Table) (rest : Rest) → table.reporters ≡ field.reporters → holds table (kept field rest)) → holds state.sited.table state.ixl
in_state holds state field is says =
    (subst (λ (f : FieldState). (table : Table) (rest : Rest) → table.reporters ≡ f.reporters → holds table (kept f rest)) is says) state.sited.table (rest_of state) refl

pub of_nodes : (holds : IxlState → Type 0) (state : StateView) (field : FieldState) → field ≡ field_of state → ((rest : Rest) → holds (kept field rest)) → holds state.ixl
of_nodes holds state field is says = (subst (λ (f : FieldState). (rest : Rest) → holds (kept f rest)) is says) (rest_of state)

-- ---- a test of what stands at a place

pub at_there : {A : Type 0} (list : List A) (place : ℕ) (one : A) (test : A → Bool) → slice_get list place ≡ Some one → test one ≡ at list place test
unfolding at
at_there [] place one test is = cc
at_there (first ∷ others) zero one test is = let same : first ≡ one = cc in ap test (sym same)
at_there (first ∷ others) (suc place) one test is = at_there others place one test is

pub at_read : {A : Type 0} (list : List A) (place : ℕ) (told : Bool) (test : A → Bool) → place < length list → IfSome (slice_get list place) (λ one. told ≡ test one) → told ≡ at list place test
unfolding at
at_read [] place told test below says = absurd (omega (arith, below))
at_read (first ∷ others) zero told test below says = says
at_read (first ∷ others) (suc place) told test below says = at_read others place told test (omega (arith, below)) says

pub at_none : {A : Type 0} (list : List A) (place : ℕ) (test : A → Bool) → length list ≤ place → at list place test ≡ false
unfolding at
at_none [] place test behind = refl
at_none (first ∷ others) zero test behind = absurd (omega (arith, behind))
at_none (first ∷ others) (suc place) test behind = at_none others place test (omega (arith, behind))

pub not_less : (n m : ℕ) → m ≤ n → nat_lt n m ≡ false
not_less n m behind = grind (arith, nat_tests)
