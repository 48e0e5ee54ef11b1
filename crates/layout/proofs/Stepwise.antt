-- Steps one after the other: where they failed, and what each gave.
use Rattle.std.proofs.Common.{◌≡◌, ◌⊎◌, Result, Ok, Err, refl, ap, inl, inr, rules}
use Rattle.layout_text.specs.declared.fault.LayoutFault.{LayoutFault}
use Rattle.layout_text.specs.FirstFault.{◌>>=◌}

pub same_ok : {A : Type 0} (x y : A) → ◌≡◌ {A = Result A LayoutFault} (Ok x) (Ok y) → x ≡ y
same_ok x y h = search rules

pub same_err : {A : Type 0} (e f : LayoutFault) → ◌≡◌ {A = Result A LayoutFault} (Err e) (Err f) → e ≡ f
same_err {A} e f h = let fault : Result A LayoutFault → LayoutFault = λ r. elim r [ Err g ↦ g | Ok x ↦ f ] in ap fault h

pub never : {A : Type 0} {P : Type 0} (x : A) (e : LayoutFault) → ◌≡◌ {A = Result A LayoutFault} (Ok x) (Err e) → P
never x e h = search rules

pub failed_at : {A B : Type 0} (read : Result A LayoutFault) (f : A → Result B LayoutFault) (e : LayoutFault) → read >>= f ≡ Err e → (read ≡ Err e) ⊎ ((x : A) × (read ≡ Ok x) × (f x ≡ Err e))
failed_at (Ok x) f e h = inr (x, refl, h)
failed_at {A} {B} (Err g) f e h = inl (ap Err (same_err {A = B} g e h))

pub came_from : {A B : Type 0} (read : Result A LayoutFault) (f : A → Result B LayoutFault) (y : B) → read >>= f ≡ Ok y → (x : A) × (read ≡ Ok x) × (f x ≡ Ok y)
came_from (Ok x) f y h = (x, refl, h)
came_from (Err e) f y h = search rules
