-- What a chain of judgements gave, step by step.
use Rattle.std.proofs.Common.{◌≡◌, ◌⊎◌, Bool, true, false, not, Option, Some, None, Result, Ok, Err, refl, sym, ap, inl, inr}
use Rattle.std.specs.Prelude.{if◌then◌else◌}
use Rattle.std.specs.Option.{ok_or}
use Rattle.std.proofs.lemmas.Bool.{false≢true}
use Rattle.control_table.specs.declared.fault.TableFault.{TableFault}
use Rattle.control_table.specs.inside.TableTests.{◌>>=◌}

pub none-some : {A : Type 0} (x : A) → None ≡ Some x → ⊥
none-some {A} x e = let is_some : Option A → Bool = λ o. elim o [ None ↦ false | Some y ↦ true ] in false≢true (ap is_some e)

pub err-ok : {A : Type 0} (f : TableFault) (x : A) → Err f ≡ Ok x → ⊥
err-ok {A} f x e = let is_ok : Result A TableFault → Bool = λ r. elim r [ Err g ↦ false | Ok y ↦ true ] in false≢true (ap is_ok e)

pub ok-injective : {A : Type 0} (x y : A) → ◌≡◌ {A = Result A TableFault} (Ok x) (Ok y) → x ≡ y
ok-injective {A} x y e = let unwrap : Result A TableFault → A = λ r. elim r [ Err g ↦ x | Ok z ↦ z ] in ap unwrap e

pub err-injective : {A : Type 0} (f g : TableFault) → ◌≡◌ {A = Result A TableFault} (Err f) (Err g) → f ≡ g
err-injective {A} f g e = let unwrap : Result A TableFault → TableFault = λ r. elim r [ Err h ↦ h | Ok z ↦ f ] in ap unwrap e

-- a step that gave a value came from a value
pub ok-from : {A B : Type 0} (judged : Result A TableFault) (f : A → Result B TableFault) (y : B) → (judged >>= f) ≡ Ok y → (x : A) × (judged ≡ Ok x) × (f x ≡ Ok y)
ok-from (Ok x) f y e = (x, refl, e)
ok-from (Err g) f y e = absurd (err-ok g y e)

-- a fault came from the first step or from the second
pub err-from : {A B : Type 0} (judged : Result A TableFault) (f : A → Result B TableFault) (g : TableFault) → (judged >>= f) ≡ Err g → (judged ≡ Err g) ⊎ ((x : A) × (judged ≡ Ok x) × (f x ≡ Err g))
err-from (Ok x) f g e = inr (x, refl, e)
err-from {A} {B} (Err h) f g e = inl (ap Err (err-injective {A = B} h g e))

pub ok-some : {A : Type 0} (o : Option A) (f : TableFault) (x : A) → ok_or o f ≡ Ok x → o ≡ Some x
ok-some (Some y) f x e = ap Some (ok-injective y x e)
ok-some None f x e = absurd (err-ok f x e)

pub err-none : {A : Type 0} (o : Option A) (f g : TableFault) → ok_or o f ≡ Err g → (o ≡ None) × (f ≡ g)
err-none (Some y) f g e = absurd (err-ok g y (sym e))
err-none {A} None f g e = (refl, err-injective {A = A} f g e)

-- a test that stops, and didn't
pub not_stopped : {A : Type 0} (b : Bool) (f : TableFault) (rest : Result A TableFault) (y : A) → (if b then Err f else rest) ≡ Ok y → (b ≡ false) × (rest ≡ Ok y)
not_stopped false f rest y e = (refl, e)
not_stopped true f rest y e = absurd (err-ok f y e)

pub stopped_or_not : {A : Type 0} (b : Bool) (f g : TableFault) (rest : Result A TableFault) → (if b then Err f else rest) ≡ Err g → ((b ≡ true) × (f ≡ g)) ⊎ ((b ≡ false) × (rest ≡ Err g))
stopped_or_not false f g rest e = inr (refl, e)
stopped_or_not {A} true f g rest e = inl (refl, err-injective {A = A} f g e)

-- what can't be true is false
pub false-from : (b : Bool) → (b ≡ true → ⊥) → b ≡ false
false-from true h = absurd (h refl)
false-from false h = refl

-- a test that was passed
pub passed : {A : Type 0} (b : Bool) (f : TableFault) (rest : Result A TableFault) (y : A) → (if not b then Err f else rest) ≡ Ok y → (b ≡ true) × (rest ≡ Ok y)
passed true f rest y e = (refl, e)
passed false f rest y e = absurd (err-ok f y e)

-- a fault of a test or of what follows
pub failed_or_passed : {A : Type 0} (b : Bool) (f g : TableFault) (rest : Result A TableFault) → (if not b then Err f else rest) ≡ Err g → ((b ≡ false) × (f ≡ g)) ⊎ ((b ≡ true) × (rest ≡ Err g))
failed_or_passed true f g rest e = inr (refl, e)
failed_or_passed {A} false f g rest e = inl (refl, err-injective {A = A} f g e)
