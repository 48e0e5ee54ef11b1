-- The faults of a line, by number, and the one that is told where there are several.
use Rattle.std.specs.Prelude.{ℕ, nat_le, if◌then◌else◌, Result, Ok, Err}
use Rattle.replay_words.specs.declared.fault.Fault.{Fault}
use Rattle.replay_words.specs.declared.fault.Fault.TheVariants.{Words, Name, Number, Hexadecimal, Answer, Order, Memory}

-- the number of a fault
abbrev pub number_of : Fault → ℕ
number_of Words = 1
number_of Name = 2
number_of Number = 3
number_of Hexadecimal = 4
number_of Answer = 5
number_of Order = 6
number_of Memory = 7

-- the fault that is told of a line with both
abbrev pub lower : Fault → Fault → Fault
lower a b = if nat_le (number_of a) (number_of b) then a else b

-- what two words of a line say, or the lower fault of the two
abbrev pub both : {A B : Type 0} → Result A Fault → Result B Fault → Result (A × B) Fault
both (Ok a) (Ok b) = Ok (a, b)
both (Ok a) (Err f) = Err f
both (Err e) (Ok b) = Err e
both (Err e) (Err f) = Err (lower e f)

-- the second step, if the first found no fault
infixl 10 ◌>>=◌
abbrev pub ◌>>=◌ : {A B : Type 0} → Result A Fault → (A → Result B Fault) → Result B Fault
Ok x >>= next = next x
Err fault >>= next = Err fault
