-- Why there is no text.
use Rattle.std.specs.Prelude.{◌≡◌, ◌≢◌, ◌<◌, ◌⊎◌, ℕ, List, length, IsUtf8, Option, Some, None}
use Rattle.std.specs.declared.io.ErrorKind.{ErrorKind}
use Rattle.std.specs.declared.io.ErrorKind.TheVariants as kinds
use Rattle.limited_text.specs.declared.fault.TextFault.{TextFault}
use Rattle.limited_text.specs.declared.fault.TextFault.TheVariants.{TooLong, NotUtf8, Unreadable, OutOfMemory}

-- where the system refuses something, it lacks memory, or it is anything else
abbrev pub IsOfSystem : ErrorKind → TextFault → Type 0
IsOfSystem kind fault = ((kind ≡ kinds.OutOfMemory) × (fault ≡ OutOfMemory)) ⊎ ((kind ≢ kinds.OutOfMemory) × (fault ≡ Unreadable))

-- Why a reader of these bytes has no text of at most so many: they are more, or aren't UTF-8. Or the reader failed, or memory was
-- lacking, which the bytes don't tell.
abbrev pub Explains : ℕ → Option (List ℕ) → TextFault → Type 0
Explains limit (Some bytes) TooLong = limit < length bytes
Explains limit (Some bytes) NotUtf8 = IsUtf8 bytes → ⊥
Explains limit known fault = Unit {0}

-- a fault of the machine, whatever the bytes are
abbrev pub IsOfMachine : TextFault → Type 0
IsOfMachine TooLong = ⊥
IsOfMachine NotUtf8 = ⊥
IsOfMachine Unreadable = Unit {0}
IsOfMachine OutOfMemory = Unit {0}
