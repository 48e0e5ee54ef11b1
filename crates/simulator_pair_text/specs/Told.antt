-- What is told of a text that isn't run to its end.
use Rattle.std.specs.Prelude.{◌≡◌, ℕ, List, [], ◌++◌, take, codes, Option, Err, IsOk}
use Rattle.std.specs.Fmt.{decimal}
use Rattle.std.specs.Io.KnownBytes.{Appends}
use Rattle.replay_words.specs.Fault.{number_of}
use Rattle.simulator_pair_text.specs.declared.failure.Failure.{Failure}
use Rattle.simulator_pair_text.specs.declared.failure.Failure.TheVariants.{Faulty, OutOfMemory, NotWritten}
use Rattle.simulator_pair_text.specs.declared.text.LineFault.{LineFault}
use Rattle.simulator_pair_text.specs.Text.{run_of}

-- Why a text isn't run to its end: by its first faulty line; or each line says something, but memory for a pair is
-- lacking, or an answer couldn't be written.
abbrev pub Explains : List ℕ → Failure → Type 0
Explains text (Faulty fault) = run_of text ≡ Err fault
Explains text OutOfMemory = IsOk (run_of text)
Explains text NotWritten = IsOk (run_of text)

-- The writer of answers stays as it is, unless answers were begun.
abbrev pub Leaves : {W : Type 0} → Failure → W → W → Type 0
Leaves NotWritten old new = Unit {0}
Leaves failure old new = new ≡ old

-- a faulty line
abbrev pub fault_text : LineFault → List ℕ
fault_text fault = codes "session fault " ++ (decimal (number_of fault.fault) ++ (codes " at line " ++ decimal fault.line))

-- the line that tells why a text isn't run to its end
abbrev pub told_line : Failure → List ℕ
told_line (Faulty fault) = fault_text fault ++ codes "\n"
told_line OutOfMemory = codes "out of memory\n"
told_line NotWritten = []

-- This line was told, as far as the writer took it, and nothing else.
abbrev pub Tells : Failure → Option (List ℕ) → Option (List ℕ) → Type 0
Tells failure old new = (told : ℕ) × Appends old new (take told (told_line failure))

-- Why a text isn't run to its end was told.
abbrev pub Explained : {W : Type 0} → List ℕ → W → W → Option (List ℕ) → Option (List ℕ) → Type 0
Explained text out_old out_new old new = (failure : Failure) × Explains text failure × Leaves failure out_old out_new × Tells failure old new
