-- Steps of reading that gave a value or a fault.
use Rattle.std.proofs.Common.{◌≡◌, ◌⊎◌, ℕ, Bool, true, false, cond, eqb, Option, Some, None, Result, Ok, Err, refl, inl, inr, subst, ap}
use Rattle.std.specs.Option.{ok_or, option_map}
use Rattle.std.proofs.lemmas.Bool.{eqb-true}
use Rattle.sci_telegram.specs.declared.fault.SciFault.{SciFault}
use Rattle.sci_telegram.specs.TelegramRead.{◌>>=◌}

-- the value of a step that did not fail
pub bind_ok : {A B : Type 0} (o : Option A) (own : SciFault) (f : A → Result B SciFault) (y : B) → (ok_or o own >>= f) ≡ Ok y → (x : A) × (o ≡ Some x) × (f x ≡ Ok y)
bind_ok (Some x) own f y e = (x, refl, e)
bind_ok None own f y e = absurd cc

-- a step that gives a value
pub bind_some : {A B : Type 0} (o : Option A) (own : SciFault) (f : A → Result B SciFault) (x : A) → o ≡ Some x → (ok_or o own >>= f) ≡ f x
bind_some o own f x e = ap (λ (o : Option _). ok_or o own >>= f) e

-- a step that gives none
pub bind_none : {A B : Type 0} (o : Option A) (own : SciFault) (f : A → Result B SciFault) → o ≡ None → (ok_or o own >>= f) ≡ Err own
bind_none o own f e = ap (λ (o : Option _). ok_or o own >>= f) e

pub is_none : {A : Type 0} (o : Option A) → ((x : A) → o ≡ Some x → ⊥) → o ≡ None
is_none (Some x) h = absurd (h x refl)
is_none None h = refl

pub cases_option : {A : Type 0} (o : Option A) → (o ≡ None) ⊎ ((x : A) × (o ≡ Some x))
cases_option (Some x) = inr (x, refl)
cases_option None = inl refl

-- where a fault came from
pub bind_err : {A B : Type 0} (o : Option A) (own fault : SciFault) (f : A → Result B SciFault) → (ok_or o own >>= f) ≡ Err fault → ((o ≡ None) × (fault ≡ own)) ⊎ ((x : A) × (o ≡ Some x) × (f x ≡ Err fault))
bind_err (Some x) own fault f e = inr (x, refl, e)
bind_err None own fault f e = inl (refl, cc)

-- a test that did not fail
pub guard_ok : {A : Type 0} (b : Bool) (fault : SciFault) (r : Result A SciFault) (y : A) → cond b (Err fault) r ≡ Ok y → (b ≡ false) × (r ≡ Ok y)
guard_ok true fault r y e = absurd cc
guard_ok false fault r y e = (refl, e)

pub guard_err : {A : Type 0} (b : Bool) (own fault : SciFault) (r : Result A SciFault) → cond b (Err own) r ≡ Err fault → ((b ≡ true) × (fault ≡ own)) ⊎ ((b ≡ false) × (r ≡ Err fault))
guard_err true own fault r e = inl (refl, cc)
guard_err false own fault r e = inr (refl, e)

-- a value that was made of another
pub map_some : {A B : Type 0} (f : A → B) (o : Option A) (y : B) → option_map f o ≡ Some y → (x : A) × (o ≡ Some x) × (f x ≡ y)
map_some f (Some x) y e = (x, refl, cc)
map_some f None y e = absurd cc

abbrev done : {A : Type 0} → A → Result A SciFault
done x = Ok x

pub ok_is : {A : Type 0} (x y : A) → done x ≡ done y → x ≡ y
ok_is x y e = cc

-- a value behind a test
pub test_some : {A : Type 0} (b : Bool) (o : Option A) (y : A) → cond b o None ≡ Some y → (b ≡ true) × (o ≡ Some y)
test_some true o y e = (refl, e)
test_some false o y e = absurd cc

-- no option is both
pub some_or_none : {A : Type 0} (o : Option A) (x : A) → o ≡ Some x → o ≡ None → ⊥
some_or_none o x some none = cc

pub same_some : {A : Type 0} (o : Option A) (x y : A) → o ≡ Some x → o ≡ Some y → x ≡ y
same_some o x y a b = cc

-- a row of a table, or those behind it
chosen : {A : Type 0} (P : A → Type 0) (t : Bool) (x y : A) (rest : Option A) → (t ≡ true → P x) → (rest ≡ Some y → P y) → cond t (Some x) rest ≡ Some y → P y
chosen P true x y rest here there e = let same : x ≡ y = cc in subst P same (here refl)
chosen P false x y rest here there e = there e

pub row : {A : Type 0} (P : A → Type 0) (n own : ℕ) (x y : A) (rest : Option A) → (n ≡ own → P x) → (rest ≡ Some y → P y) → cond (eqb n own) (Some x) rest ≡ Some y → P y
row P n own x y rest here there e = chosen P (eqb n own) x y rest (λ t. here (eqb-true n own t)) there e

pub no_row : {A : Type 0} (P : A → Type 0) (y : A) → None ≡ Some y → P y
no_row P y e = absurd cc
