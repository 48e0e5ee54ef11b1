-- Turns of controllers in the order of a list.
use Rattle.std.proofs.Common.{◌≡◌, inr, ℕ, zero, suc, List, [], ◌∷◌, ◌++◌, append_assoc, append-nil, length, refl, ap, sym, ◌∙◌, subst}
use Rattle.std.specs.Prelude.{map, Option, Some, None, slice_get}
use Rattle.ixl_state.specs.ixl_spec.StepSoFar.{StepSoFar, along, at_route, over, with_one}
use Rattle.ixl_state.specs.ixl_spec.State.{RouteState}
use Rattle.ixl_state.specs.ixl_spec.Table.{Row, Table}
use Rattle.ixl_laws.specs.Order.{AtMostOne, CallsAtLink, InOrderOf, calls_of}
use Rattle.ixl_laws.proofs.PickedByTest.{none_is, some_same}
use Rattle.ixl_laws.proofs.Ruled.{over_holds}

pub calls_joined : (some more : List CallsAtLink) → calls_of (some ++ more) ≡ calls_of some ++ calls_of more
calls_joined [] more = refl
calls_joined (first ∷ others) more =
    ap (λ calls. map (λ call. (first.node, call)) first.calls ++ calls) (calls_joined others more) ∙ sym (append_assoc (map (λ call. (first.node, call)) first.calls) (calls_of others) (calls_of more))

-- ---- the first of a list

pub first_n : {A : Type 0} → ℕ → List A → List A
first_n zero list = []
first_n (suc n) [] = []
first_n (suc n) (first ∷ others) = first ∷ first_n n others

pub first_all : {A : Type 0} (list : List A) → first_n (length list) list ≡ list
unfolding first_n
first_all [] = refl
first_all (first ∷ others) = ap (λ list. first ∷ list) (first_all others)

first_next : {A : Type 0} (n : ℕ) (list : List A) (one : A) → slice_get list n ≡ Some one → first_n (suc n) list ≡ first_n n list ++ one ∷ []
unfolding first_n
first_next n [] one is = absurd (none_is is)
first_next zero (first ∷ others) one is = ap (λ a. a ∷ []) (some_same is)
first_next (suc n) (first ∷ others) one is = ap (λ list. first ∷ list) (first_next n others one is)

first_same : {A : Type 0} (n : ℕ) (list : List A) → slice_get list n ≡ None → first_n (suc n) list ≡ first_n n list
unfolding first_n
first_same zero [] is = refl
first_same (suc n) [] is = refl
first_same zero (first ∷ others) is = absurd (none_is (sym is))
first_same (suc n) (first ∷ others) is = ap (λ list. first ∷ list) (first_same n others is)

order_next : {A : Type 0} (AreOf : A → List CallsAtLink → Type 0) (list : List A) (one : A) (turns own : List CallsAtLink) → InOrderOf AreOf list turns → AreOf one own → InOrderOf AreOf (list ++ one ∷ []) (turns ++ own)
order_next AreOf [] one turns own is are = (own, [], ap (λ some. some ++ own) is ∙ sym (append-nil own), are, refl)
order_next AreOf (first ∷ others) one turns own is are =
    (is.0, is.1 ++ own, ap (λ some. some ++ own) is.2 ∙ append_assoc is.0 is.1 own, is.3, order_next AreOf others one is.1 own is.4 are)

-- ---- parts of a step

-- from one part of a step to the next, calls are made in turns
pub record Grows (Are : List CallsAtLink → Type 0) (a b : StepSoFar) : Type 0 where
  pub turns : List CallsAtLink
  pub calls : b.calls ≡ a.calls ++ calls_of turns
  pub are : Are turns

pub grows_nothing : (Are : List CallsAtLink → Type 0) (a b : StepSoFar) → b.calls ≡ a.calls → Are [] → Grows Are a b
grows_nothing Are a b same are = record { turns = []; calls = same ∙ sym (append-nil a.calls); are = are }

pub grows_one : (Is : CallsAtLink → Type 0) (a b : StepSoFar) (turn : CallsAtLink) → b.calls ≡ a.calls ++ map (λ call. (turn.node, call)) turn.calls → Is turn → Grows (AtMostOne Is) a b
grows_one Is a b turn calls is = record { turns = turn ∷ []; calls = calls ∙ ap (λ more. a.calls ++ more) (sym (append-nil (map (λ call. (turn.node, call)) turn.calls))); are = inr (turn, refl, is) }

-- a part whose calls are those of another
pub grows_from : (Are : List CallsAtLink → Type 0) (a other b : StepSoFar) → a.calls ≡ other.calls → Grows Are a b → Grows Are other b
grows_from Are a other b same grows = record { turns = grows.turns; calls = grows.calls ∙ ap (λ calls. calls ++ calls_of grows.turns) same; are = grows.are }

pub at_route_grows : (Are : List CallsAtLink → Type 0) (table : Table) (number : ℕ) (does : Row → RouteState → StepSoFar → StepSoFar) (part : StepSoFar) (row : Row) → slice_get table.rows number ≡ Some row → Are [] →
    ((route : RouteState) → Grows Are part (does row route part)) → Grows Are part (at_route table number does part)
unfolding at_route
at_route_grows Are table number does part row is none each = rw is (by_route (slice_get part.ixl.routes number)) where
  by_route : (kept : Option RouteState) → Grows Are part (with_one kept (does row) part)
  by_route None = grows_nothing Are part part refl none
  by_route (Some route) = each route

pub at_route_none : (table : Table) (number : ℕ) (does : Row → RouteState → StepSoFar → StepSoFar) (part : StepSoFar) → slice_get table.rows number ≡ None → (at_route table number does part).calls ≡ part.calls
unfolding at_route
at_route_none table number does part none = rw none refl

module _ (Holds : StepSoFar → Type 0) where
  pub along_grows : {A : Type 0} (does : A → StepSoFar → StepSoFar) (AreOf : A → List CallsAtLink → Type 0) → ((a : A) (part : StepSoFar) → Holds part → Holds (does a part)) →
      ((a : A) (part : StepSoFar) → Holds part → Grows (AreOf a) part (does a part)) → (list : List A) (part : StepSoFar) → Holds part → Grows (InOrderOf AreOf list) part (along does list part)
  along_grows does AreOf keeps each [] part is = grows_nothing (InOrderOf AreOf []) part part refl refl
  along_grows does AreOf keeps each (first ∷ others) part is =
      let own = each first part is
      in let rest = along_grows does AreOf keeps each others (does first part) (keeps first part is)
      in record {
        turns = own.turns ++ rest.turns;
        calls = rest.calls ∙ ap (λ calls. calls ++ calls_of rest.turns) own.calls ∙ append_assoc part.calls (calls_of own.turns) (calls_of rest.turns)
            ∙ ap (λ more. part.calls ++ more) (sym (calls_joined own.turns rest.turns));
        are = (own.turns, rest.turns, refl, own.are, rest.are);
      }

  module _ (does : ℕ → StepSoFar → StepSoFar) (rows : List Row) (AreOf : Row → List CallsAtLink → Type 0) (keeps : (number : ℕ) (part : StepSoFar) → Holds part → Holds (does number part))
      (each : (number : ℕ) (part : StepSoFar) (row : Row) → Holds part → slice_get rows number ≡ Some row → Grows (AreOf row) part (does number part))
      (none : (number : ℕ) (part : StepSoFar) → slice_get rows number ≡ None → (does number part).calls ≡ part.calls) where
    over_first : (n : ℕ) (part : StepSoFar) → Holds part → Grows (InOrderOf AreOf (first_n n rows)) part (over does n part)
    unfolding first_n
    over_first zero part is = grows_nothing (InOrderOf AreOf []) part part refl refl
    over_first (suc n) part is = by_row (slice_get rows n) refl (over_first n part is) (over_holds Holds does keeps n part is) where
      by_row : (row : Option Row) → slice_get rows n ≡ row → Grows (InOrderOf AreOf (first_n n rows)) part (over does n part) → Holds (over does n part) →
          Grows (InOrderOf AreOf (first_n (suc n) rows)) part (does n (over does n part))
      by_row None at so_far holds = record {
        turns = so_far.turns;
        calls = none n (over does n part) at ∙ so_far.calls;
        are = subst (λ list. InOrderOf AreOf list so_far.turns) (sym (first_same n rows at)) so_far.are;
      }
      by_row (Some row) at so_far holds =
          let next = each n (over does n part) row holds at
          in record {
            turns = so_far.turns ++ next.turns;
            calls = next.calls ∙ ap (λ calls. calls ++ calls_of next.turns) so_far.calls ∙ append_assoc part.calls (calls_of so_far.turns) (calls_of next.turns)
                ∙ ap (λ more. part.calls ++ more) (sym (calls_joined so_far.turns next.turns));
            are = subst (λ list. InOrderOf AreOf list (so_far.turns ++ next.turns)) (sym (first_next n rows row at)) (order_next AreOf (first_n n rows) row so_far.turns next.turns so_far.are next.are);
          }

    pub over_rows : (part : StepSoFar) → Holds part → Grows (InOrderOf AreOf rows) part (over does (length rows) part)
    over_rows part is =
        let grows = over_first (length rows) part is
        in record { turns = grows.turns; calls = grows.calls; are = subst (λ list. InOrderOf AreOf list grows.turns) (first_all rows) grows.are }
