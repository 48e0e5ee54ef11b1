-- What is told where there is no capture in a file of its own.
use Rattle.std.specs.Prelude.{ℕ, List, codes}
use Rattle.capture_file.specs.declared.fault.CaptureFault.{CaptureFault}
use Rattle.capture_file.specs.declared.fault.CaptureFault.TheVariants.{TooLong, Exists, CannotWrite}

-- the line that tells why
abbrev pub fault_line : CaptureFault → List ℕ
fault_line TooLong = codes "capture fault 1 TooLong\n"
fault_line Exists = codes "capture fault 2 Exists\n"
fault_line CannotWrite = codes "cannot write\n"

-- it is the file that is at fault
abbrev pub IsOfFile : CaptureFault → Type 0
IsOfFile TooLong = ⊥
IsOfFile Exists = Unit {0}
IsOfFile CannotWrite = Unit {0}
