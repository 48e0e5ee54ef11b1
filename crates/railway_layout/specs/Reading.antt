-- Reading a railway's text, with the first fault that is met.
use Rattle.std.specs.Prelude.{◌≡◌, ℕ, suc, List, [], ◌∷◌, Result, Ok, Err}
use Rattle.railway_layout.specs.declared.fault.TextFault.{TextFault}
use Rattle.railway_layout.specs.declared.fault.TextFault.TheVariants.{OutOfMemory}

-- a value, or the first fault
abbrev pub Read : Type 0 → Type 0
Read A = Result A TextFault

infixl 10 ◌>>=◌
abbrev pub ◌>>=◌ : {A B : Type 0} → Result A TextFault → (A → Result B TextFault) → Result B TextFault
(Ok x) >>= f = f x
(Err e) >>= f = Err e

-- What a function returned, seen by view, is what reading gives, unless memory ran out.
abbrev pub Fails : {Y : Type 0} → TextFault → Result Y TextFault → Type 0
Fails OutOfMemory read = Unit {0}
Fails e read = read ≡ Err e

abbrev pub Gives : {X Y : Type 0} → (X → Y) → Result X TextFault → Result Y TextFault → Type 0
Gives view (Ok x) read = read ≡ Ok (view x)
Gives view (Err e) read = Fails e read

-- what a step gives for each entry of a list, in order, where the first is the n-th
unfoldable pub each_of : {A B : Type 0} → (ℕ → A → Result B TextFault) → ℕ → List A → Result (List B) TextFault
each_of step n [] = Ok []
each_of step n (x ∷ xs) = do
  y ← step n x
  ys ← each_of step (suc n) xs
  Ok (y ∷ ys)
