-- What a writer in parts does with the bytes that it is given.
use Rattle.std.specs.Prelude.{◌≡◌, ◌-◌, ℕ, Bool, List, length, take, MatchResult, Option, Some, None, Result}
use Rattle.std.specs.Option.{option_map}
use Rattle.run_files.specs.Parts.{Parts, all_parts, is_full, joined, next_part, with_opened}

-- A writer: how long a part is to be, how many bytes the last one lacks of that, whether it is full, and all parts, where they are known.
pub record Writer : Type 0 where
  pub size : ℕ
  pub missing : ℕ
  pub full : Bool
  pub parts : Option Parts

-- What it keeps of the last part is so.
abbrev pub IsKept : ℕ → ℕ → Bool → Option Parts → Type 0
IsKept size missing full None = Unit {0}
IsKept size missing full (Some parts) = (missing ≡ size - length parts.opened) × (full ≡ is_full size parts.opened)

-- the text in all parts, where they are known
abbrev pub text_of : Option Parts → Option (List ℕ)
text_of = option_map (λ parts. joined (all_parts parts))

-- ---- the files of the parts

-- an empty part stands behind the others, or nothing was done
abbrev pub Begins : {T E : Type 0} → Option Parts → Option Parts → Result T E → Type 0
Begins old new result = MatchResult result (λ _. new ≡ option_map next_part old) (λ _. new ≡ old)

-- the last part got the bytes that were taken, or nothing was done
abbrev pub Takes : {E : Type 0} → Option Parts → Option Parts → Result ℕ E → List ℕ → Type 0
Takes old new result bytes = MatchResult result (λ taken. new ≡ option_map (with_opened (take taken bytes)) old) (λ _. new ≡ old)
