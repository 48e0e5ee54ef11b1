-- Reading that may lack memory.
use Rattle.std.specs.Prelude.{◌≡◌, Result, Ok, Err}
use Rattle.replay_words.specs.declared.fault.Fault.{Fault}
use Rattle.replay_words.specs.declared.fault.Fault.TheVariants.{Memory}

-- what was read is told, or its fault; where memory was lacking that is told instead
abbrev pub Fails : {A : Type 0} → Fault → Result A Fault → Type 0
Fails Memory said = Unit {0}
Fails fault said = said ≡ Err fault

abbrev pub Gives : {A B : Type 0} → (B → A) → Result A Fault → Result B Fault → Type 0
Gives view said (Ok told) = said ≡ Ok (view told)
Gives view said (Err fault) = Fails fault said
