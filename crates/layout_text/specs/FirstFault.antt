-- Reading with the first fault that is met.
use Rattle.std.specs.Prelude.{◌≡◌, ℕ, suc, List, [], ◌∷◌, Result, Ok, Err}
use Rattle.layout_text.specs.declared.fault.LayoutFault.{LayoutFault}
use Rattle.layout_text.specs.declared.fault.LayoutFault.TheVariants.{OutOfMemory}
use Rattle.layout_text.specs.declared.fault.Place.{Place}
use Rattle.layout_text.specs.declared.fault.TableName.{TableName}

-- a value, or the first fault
abbrev pub Read : Type 0 → Type 0
Read A = Result A LayoutFault

infixl 10 ◌>>=◌
abbrev pub ◌>>=◌ : {A B : Type 0} → Result A LayoutFault → (A → Result B LayoutFault) → Result B LayoutFault
(Ok x) >>= f = f x
(Err e) >>= f = Err e

-- What a function returned, seen by view, is what reading gives, unless memory ran out.
abbrev pub Fails : {Y : Type 0} → LayoutFault → Result Y LayoutFault → Type 0
Fails OutOfMemory read = Unit {0}
Fails e read = read ≡ Err e

abbrev pub Gives : {X Y : Type 0} → (X → Y) → Result X LayoutFault → Result Y LayoutFault → Type 0
Gives view (Ok x) read = read ≡ Ok (view x)
Gives view (Err e) read = Fails e read

-- what a step gives for each entry of a table, in order, where the first stands at place n
unfoldable pub each_of : {A B : Type 0} → (Place → A → Result B LayoutFault) → TableName → ℕ → List A → Result (List B) LayoutFault
each_of step table n [] = Ok []
each_of step table n (x ∷ xs) = do
  y ← step (record { table = table; entry = n }) x
  ys ← each_of step table (suc n) xs
  Ok (y ∷ ys)

-- the same, all at one place
unfoldable pub all_of : {A B : Type 0} → (A → Result B LayoutFault) → List A → Result (List B) LayoutFault
all_of step [] = Ok []
all_of step (x ∷ xs) = do
  y ← step x
  ys ← all_of step xs
  Ok (y ∷ ys)
