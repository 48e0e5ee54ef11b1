-- What reading tells of things that have to hold, each at its place: that all do, or which is the first that doesn't.
use Rattle.std.proofs.Common.{◌≡◌, ℕ, suc, List, [], ◌∷◌, ◌++◌, map, All, Result, Ok, Err, sym, ap, subst, ◌∙◌, ⊎_elim, append_assoc}
use Rattle.std.proofs.lemmas.List.{append-nil, map-append}
use Rattle.std.proofs.lemmas.List.Elements.{All-nil, All-cons, All-append}
use Rattle.layout_text.specs.declared.fault.LayoutFault.{LayoutFault}
use Rattle.layout_text.specs.declared.fault.LayoutFault.TheVariants.{UnknownName}
use Rattle.layout_text.specs.declared.fault.Place.{Place}
use Rattle.layout_text.specs.declared.fault.TableName.{TableName}
use Rattle.layout_text.specs.FirstFault.{◌>>=◌, each_of, all_of}
use Rattle.layout.specs.Faults.{numbered, all_at, listed}
use Rattle.layout.specs.Unknown.{IsFirstNot}
use Rattle.layout.proofs.Stepwise.{same_err, never, failed_at, came_from}

-- ---- no unknown name

-- The answer is none that a name is unknown.
abbrev pub Quiet : {A : Type 0} → Result A LayoutFault → Type 0
Quiet read = (place : Place) → read ≡ Err (UnknownName place) → ⊥

pub quiet-ok : {A : Type 0} (x : A) → Quiet (Ok x)
quiet-ok x place h = never x (UnknownName place) h

pub quiet-then : {A B : Type 0} (read : Result A LayoutFault) (f : A → Result B LayoutFault) → Quiet read → ((x : A) → Quiet (f x)) → Quiet (read >>= f)
quiet-then read f first next place h = ⊎_elim (λ e. first place e) (λ x. next x.0 place x.2) (failed_at read f (UnknownName place) h)

pub quiet-each : {A B : Type 0} (step : Place → A → Result B LayoutFault) → ((place : Place) (x : A) → Quiet (step place x)) → (table : TableName) (n : ℕ) (xs : List A) → Quiet (each_of step table n xs)
unfolding each_of
quiet-each step quiet table n [] = quiet-ok []
quiet-each step quiet table n (x ∷ xs) =
    let place : Place = record { table = table; entry = n } in
    quiet-then (step place x) (λ y. each_of step table (suc n) xs >>= λ ys. Ok (y ∷ ys)) (quiet place x)
    (λ y. quiet-then (each_of step table (suc n) xs) (λ ys. Ok (y ∷ ys)) (quiet-each step quiet table (suc n) xs) (λ ys. quiet-ok (y ∷ ys)))

abbrev place_in : Place → LayoutFault → Place
place_in other (UnknownName place) = place
place_in other _ = other

pub same_place : {A : Type 0} (p q : Place) → ◌≡◌ {A = Result A LayoutFault} (Err (UnknownName p)) (Err (UnknownName q)) → p ≡ q
same_place {A} p q h = ap (place_in p) (same_err {A = A} (UnknownName p) (UnknownName q) h)

-- ---- each holds, or the first doesn't

pub record Tells {X A : Type 0} (holds : X → Type 0) (uses : List (X × Place)) (read : Result A LayoutFault) : Type 0 where
  pub fine : (y : A) → read ≡ Ok y → All (λ u. holds u.0) uses
  pub miss : (place : Place) → read ≡ Err (UnknownName place) → IsFirstNot holds uses place

module _ {X : Type 0} (holds : X → Type 0) where
  pub tells-none : {A : Type 0} (read : Result A LayoutFault) → Quiet read → Tells holds [] read
  tells-none read quiet = record { fine = λ y h. All-nil (λ u. holds u.0); miss = λ place h. absurd (quiet place h) }

  -- one that holds, and one that doesn't
  pub tells-held : {A : Type 0} (x : X) (place : Place) (read : Result A LayoutFault) → holds x → Quiet read → Tells holds ((x, place) ∷ []) read
  tells-held x place read held quiet = record {
    fine = λ y h. All-cons (λ u. holds u.0) (x, place) [] held (All-nil (λ u. holds u.0));
    miss = λ p h. absurd (quiet p h);
  }

  pub tells-missed : {A : Type 0} (x : X) (place : Place) (read : Result A LayoutFault) → (holds x → ⊥) → read ≡ Err (UnknownName place) → Tells holds ((x, place) ∷ []) read
  tells-missed {A} x place read fails is = record {
    fine = λ y h. never y (UnknownName place) (sym h ∙ is);
    miss = λ p h. record {
      earlier = [];
      it = x;
      later = [];
      stands = ap (λ q. (x, q) ∷ []) (same_place {A = A} place p (sym is ∙ h));
      held = All-nil (λ u. holds u.0);
      fails = fails;
    };
  }

  -- one reading after the other
  pub tells-then : {A B : Type 0} (us vs : List (X × Place)) (read : Result A LayoutFault) (f : A → Result B LayoutFault) → Tells holds us read → ((x : A) → Tells holds vs (f x)) → Tells holds (us ++ vs) (read >>= f)
  tells-then us vs read f first next = record {
    fine = λ y h. let x = came_from read f y h in All-append (λ u. holds u.0) us vs (first.fine x.0 x.1) ((next x.0).fine y x.2);
    miss = λ place h. ⊎_elim
        (λ e. let is = first.miss place e in record {
          earlier = is.earlier;
          it = is.it;
          later = is.later ++ vs;
          stands = ap (λ xs. xs ++ vs) is.stands ∙ append_assoc is.earlier ((is.it, place) ∷ is.later) vs;
          held = is.held;
          fails = is.fails;
        })
        (λ x. let is = (next x.0).miss place x.2 in record {
          earlier = us ++ is.earlier;
          it = is.it;
          later = is.later;
          stands = ap (λ xs. us ++ xs) is.stands ∙ sym (append_assoc us is.earlier ((is.it, place) ∷ is.later));
          held = All-append (λ u. holds u.0) us is.earlier (first.fine x.0 x.1) is.held;
          fails = is.fails;
        })
        (failed_at read f (UnknownName place) h);
  }

  pub tells-end : {A B : Type 0} (us : List (X × Place)) (read : Result A LayoutFault) (f : A → B) → Tells holds us read → Tells holds us (read >>= λ x. Ok (f x))
  tells-end us read f first =
      subst (λ xs. Tells holds xs (read >>= λ x. Ok (f x))) (append-nil us)
      (tells-then us [] read (λ x. Ok (f x)) first (λ x. tells-none (Ok (f x)) (quiet-ok (f x))))

  -- within one entry
  pub tells-within : {A B : Type 0} (place : Place) (us vs : List X) (read : Result A LayoutFault) (f : A → Result B LayoutFault) → Tells holds (all_at place us) read → ((x : A) → Tells holds (all_at place vs) (f x)) → Tells holds (all_at place (us ++ vs)) (read >>= f)
  tells-within place us vs read f first next =
      subst (λ xs. Tells holds xs (read >>= f)) (sym (map-append (λ u. (u, place)) us vs)) (tells-then (all_at place us) (all_at place vs) read f first next)

  pub tells-all : {A B : Type 0} (place : Place) (use_of : A → X) (step : A → Result B LayoutFault) → ((x : A) → Tells holds ((use_of x, place) ∷ []) (step x)) → (xs : List A) → Tells holds (all_at place (map use_of xs)) (all_of step xs)
  unfolding all_of
  tells-all place use_of step steps [] = tells-none (Ok []) (quiet-ok [])
  tells-all place use_of step steps (x ∷ xs) =
      tells-then ((use_of x, place) ∷ []) (all_at place (map use_of xs)) (step x) (λ y. all_of step xs >>= λ ys. Ok (y ∷ ys)) (steps x)
      (λ y. tells-end (all_at place (map use_of xs)) (all_of step xs) (λ ys. y ∷ ys) (tells-all place use_of step steps xs))

  -- entry after entry
  pub tells-each : {A B : Type 0} (uses_of : A → List X) (step : Place → A → Result B LayoutFault) → ((place : Place) (x : A) → Tells holds (all_at place (uses_of x)) (step place x)) → (table : TableName) (n : ℕ) (xs : List A) → Tells holds (listed uses_of table n xs) (each_of step table n xs)
  unfolding each_of
  tells-each uses_of step steps table n [] = tells-none (Ok []) (quiet-ok [])
  tells-each uses_of step steps table n (x ∷ xs) =
      let place : Place = record { table = table; entry = n } in
      tells-then (all_at place (uses_of x)) (listed uses_of table (suc n) xs) (step place x) (λ y. each_of step table (suc n) xs >>= λ ys. Ok (y ∷ ys)) (steps place x)
      (λ y. tells-end (listed uses_of table (suc n) xs) (each_of step table (suc n) xs) (λ ys. y ∷ ys) (tells-each uses_of step steps table (suc n) xs))

  pub tells-numbered : {B : Type 0} (step : Place → X → Result B LayoutFault) → ((place : Place) (x : X) → Tells holds ((x, place) ∷ []) (step place x)) → (table : TableName) (n : ℕ) (xs : List X) → Tells holds (numbered table n xs) (each_of step table n xs)
  unfolding each_of
  tells-numbered step steps table n [] = tells-none (Ok []) (quiet-ok [])
  tells-numbered step steps table n (x ∷ xs) =
      let place : Place = record { table = table; entry = n } in
      tells-then ((x, place) ∷ []) (numbered table (suc n) xs) (step place x) (λ y. each_of step table (suc n) xs >>= λ ys. Ok (y ∷ ys)) (steps place x)
      (λ y. tells-end (numbered table (suc n) xs) (each_of step table (suc n) xs) (λ ys. y ∷ ys) (tells-numbered step steps table (suc n) xs))
