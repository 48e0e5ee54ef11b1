-- Tests and the facts that they decide.
use Rattle.std.proofs.Common.{inl, inr, ◌≡◌, ◌⊎◌, ℕ, ◌<◌, Bool, true, false, not, List, [], ◌∷◌, refl, ap, sym, ◌∙◌, subst}
use Rattle.std.specs.Prelude.{◌&&◌, ◌||◌, ◌==◌, nat_lt, Option, Some, None, slice_get}
use Rattle.std.specs.List.{All, Contains, list_all, list_any}
use Rattle.std.proofs.lemmas.Bool.{true≢false, false≢true, eq-eqb, eqb-true, ltb-true, lt-ltb}
use Rattle.std.proofs.lemmas.List.Sums.{AllPass-from_list_all, list_all-from_AllPass}
use Rattle.ixl_spec.specs.Table.{at, passes}
use Rattle.ixl_spec.specs.Due.{At}
use Rattle.ixl_spec.proofs.Lists.{contains-here, contains-there, contains-cases, contains-none}

-- a test decides a fact
pub record Decides (test : Bool) (fact : Type 0) : Type 0 where
  pub yes : test ≡ true → fact
  pub shown : fact → test ≡ true

pub no : (test : Bool) (fact : Type 0) → Decides test fact → test ≡ false → fact → ⊥
no test fact is fails holds = true≢false (sym (is.shown holds) ∙ fails)

pub and_yes : (a b : Bool) → a && b ≡ true → (a ≡ true) × (b ≡ true)
and_yes true b is = (refl, is)
and_yes false b is = absurd (false≢true is)

pub and_shown : (a b : Bool) → a ≡ true → b ≡ true → a && b ≡ true
and_shown true b one other = other
and_shown false b one other = absurd (false≢true one)

pub at_decides : {A : Type 0} (list : List A) (place : ℕ) (test : A → Bool) (holds : A → Type 0) → ((one : A) → Decides (test one) (holds one)) →
    Decides (at list place test) (At list place holds)
unfolding at
at_decides {A} list place test holds each = record { yes = found (slice_get list place) refl; shown = λ is. rw is.1 ((each is.0).shown is.2) } where
  found : (one : Option A) → slice_get list place ≡ one → passes test one ≡ true → At list place holds
  found None is passed = absurd (false≢true passed)
  found (Some one) is passed = (one, is, (each one).yes passed)

pub all_decides : {A : Type 0} (test : A → Bool) (holds : A → Type 0) (list : List A) → ((one : A) → Decides (test one) (holds one)) → Decides (list_all test list) (All holds list)
all_decides test holds list each = record {
  yes = λ is. λ place other within. (each _).yes (AllPass-from_list_all test list is place other within);
  shown = λ is. list_all-from_AllPass test list (λ place other within. (each _).shown (is place other within));
}

pub not_decides : (b : Bool) → Decides (not b) (b ≡ false)
not_decides true = record { yes = λ is. absurd (false≢true is); shown = λ is. absurd (true≢false is) }
not_decides false = record { yes = λ is. refl; shown = λ is. refl }

pub both_decide : (a b : Bool) (one other : Type 0) → Decides a one → Decides b other → Decides (a && b) (one × other)
both_decide a b one other first second = record {
  yes = λ is. let both = and_yes a b is in (first.yes both.0, second.yes both.1);
  shown = λ is. and_shown a b (first.shown is.0) (second.shown is.1);
}

pub itself_decides : (b : Bool) → Decides b (b ≡ true)
itself_decides b = record { yes = λ is. is; shown = λ is. is }

pub or_decide : (a b : Bool) (one other : Type 0) → Decides a one → Decides b other → Decides (a || b) (one ⊎ other)
or_decide true b one other first second = record { yes = λ is. inl (first.yes refl); shown = λ is. refl }
or_decide false b one other first second = record { yes = λ is. inr (second.yes is); shown = λ is. shown is } where
  shown : one ⊎ other → b ≡ true
  shown (inl is) = absurd (false≢true (first.shown is))
  shown (inr is) = second.shown is

pub negation_decides : (b : Bool) (fact : Type 0) → Decides b fact → Decides (not b) (fact → ⊥)
negation_decides true fact is = record { yes = λ fails. absurd (false≢true fails); shown = λ none. absurd (none (is.yes refl)) }
negation_decides false fact is = record { yes = λ fails. λ holds. false≢true (is.shown holds); shown = λ none. refl }

-- what decides a fact decides an equivalent one
pub equally : (test : Bool) (fact other : Type 0) → Decides test fact → (fact → other) → (other → fact) → Decides test other
equally test fact other is there back = record { yes = λ b. there (is.yes b); shown = λ holds. is.shown (back holds) }

pub equal_decides : (a b : ℕ) → Decides (a == b) (a ≡ b)
equal_decides a b = record { yes = eqb-true a b; shown = eq-eqb a b }

pub less_decides : (a b : ℕ) → Decides (nat_lt a b) (a < b)
less_decides a b = record { yes = ltb-true a b; shown = lt-ltb a b }

pub any_decides : {A : Type 0} (test : A → Bool) (holds : A → Type 0) (list : List A) → ((one : A) → Decides (test one) (holds one)) →
    Decides (list_any test list) ((one : A) × Contains list one × holds one)
any_decides test holds [] each = record { yes = λ is. absurd (false≢true is); shown = λ is. absurd (contains-none is.0 is.1) }
any_decides {A} test holds (first ∷ others) each = equally _ _ _ (or_decide _ _ _ _ (each first) (any_decides test holds others each)) there back where
  there : holds first ⊎ ((one : A) × Contains others one × holds one) → (one : A) × Contains (first ∷ others) one × holds one
  there (inl is) = (first, contains-here first others, is)
  there (inr is) = (is.0, contains-there first is.0 others is.1, is.2)

  back : (one : A) × Contains (first ∷ others) one × holds one → holds first ⊎ ((one : A) × Contains others one × holds one)
  back is = at_first (contains-cases first is.0 others is.1) where
    at_first : (first ≡ is.0) ⊎ Contains others is.0 → holds first ⊎ ((one : A) × Contains others one × holds one)
    at_first (inl same) = inl (subst holds (sym same) is.2)
    at_first (inr within) = inr (is.0, within, is.2)

-- one of a list that fails a test of all
pub one_fails : {A : Type 0} (test : A → Bool) (list : List A) → list_all test list ≡ false → (one : A) × Contains list one × (test one ≡ false)
one_fails test [] is = absurd (true≢false is)
one_fails {A} test (first ∷ others) is = by_first (test first) refl (one_fails test others) where
  by_first : (b : Bool) → test first ≡ b → (list_all test others ≡ false → (one : A) × Contains others one × (test one ≡ false)) → (one : A) × Contains (first ∷ others) one × (test one ≡ false)
  by_first false fails behind = (first, contains-here first others, fails)
  by_first true passed behind =
      let rest = behind (sym (ap (λ b. b && list_all test others) passed) ∙ is)
      in (rest.0, contains-there first rest.0 others rest.1, rest.2)
