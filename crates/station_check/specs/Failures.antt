-- Why a command of a station fails, and what comes of that: the line that it tells on standard error, what it leaves of its
-- output, and the status with which it ends.
use Rattle.std.specs.Prelude.{◌≡◌, ◌≢◌, ℕ, List, [], ◌++◌, take, codes, Option, Result, Ok, IsOk}
use Rattle.std.specs.Fmt.{decimal}
use Rattle.std.specs.Io.KnownBytes.{Appends}
use Rattle.capture_file.specs.Faults.{fault_line as capture_fault_line}
use Rattle.control_table.specs.layout.Entries.{Site}
use Rattle.control_table.specs.layout.NamesResolved.{layout_in}
use Rattle.control_table.specs.Faults.{IsFirstFault}
use Rattle.control_table.specs.Messages.{fault_text as table_fault_text}
use Rattle.layout_text.specs.FirstFault.{Fails}
use Rattle.layout_text.specs.Messages.{fault_text as layout_fault_text}
use Rattle.node_addresses.specs.Messages.{fault_text as addresses_fault_text}
use Rattle.node_addresses.specs.replay_lines.Text.{FailsAt, fault_text as line_fault_text}
use Rattle.node_addresses.specs.replay_lines.declared.text.SessionFault.{SessionFault}
use Rattle.station_check.specs.Report.{IsSound}
use Rattle.station_check.specs.declared.failure.Failure.{Failure}
use Rattle.station_check.specs.declared.failure.Failure.TheVariants.{Layout, Table, Line, Picture, Addresses, Hex, Route, NoIpv4, Capture, Differs, CannotRun, OutOfMemory, NotWritten}

-- ---- what is told

-- the line of a failure; nothing is told where the output can't be written
abbrev pub told_line : Failure → List ℕ
told_line (Layout fault) = codes "layout fault " ++ (layout_fault_text fault ++ codes "\n")
told_line (Table fault) = codes "table fault " ++ (table_fault_text fault ++ codes "\n")
told_line (Line fault) = line_fault_text fault ++ codes "\n"
told_line (Picture fault) = codes "picture fault " ++ (decimal fault.number ++ (codes " at line " ++ (decimal fault.line ++ codes "\n")))
told_line (Addresses fault) = addresses_fault_text fault ++ codes "\n"
told_line Hex = codes "hex fault 4 Hexadecimal\n"
told_line Route = codes "route fault 2 Name\n"
told_line (NoIpv4 name) = codes "capture fault 3 NoIpv4 at " ++ (name ++ codes "\n")
told_line (Capture fault) = capture_fault_line fault
told_line (Differs line) = codes "differs at line " ++ (decimal line ++ codes "\n")
told_line CannotRun = codes "cannot run\n"
told_line OutOfMemory = codes "out of memory\n"
told_line NotWritten = []

-- This line was told, as far as the writer took it, and nothing else.
abbrev pub Tells : Failure → Option (List ℕ) → Option (List ℕ) → Type 0
Tells why old new = (told : ℕ) × Appends old new (take told (told_line why))

-- ---- what is left

-- The output stays as it is, unless it couldn't be written.
abbrev pub Leaves : {W : Type 0} → Failure → W → W → Type 0
Leaves why old new = why ≢ NotWritten → new ≡ old

-- So it does where it is written part by part, but memory may be lacking between two parts.
abbrev pub LeavesParts : {W : Type 0} → Failure → W → W → Type 0
LeavesParts why old new = why ≢ OutOfMemory → Leaves why old new

-- ---- the status

abbrev pub status_of : Failure → ℕ
status_of (Differs line) = 3
status_of why = 1

-- ---- all of it

-- A command failed for such a reason, and told that.
abbrev pub Told : (Failure → Type 0) → Option (List ℕ) → Option (List ℕ) → Type 0
Told Why old new = (why : Failure) × Why why × Tells why old new

-- It ended with the status of that failure too.
abbrev pub Failed : (Failure → Type 0) → ℕ → Option (List ℕ) → Option (List ℕ) → Type 0
Failed Why status old new = Told (λ why. Why why × (status ≡ status_of why)) old new

-- And it left its output as it was, unless that couldn't be written.
abbrev pub Explained : {W : Type 0} → (Failure → Type 0) → ℕ → W → W → Option (List ℕ) → Option (List ℕ) → Type 0
Explained Why status out_old out_new old new = Failed (λ why. Why why × Leaves why out_old out_new) status old new

-- So it is of a command that writes its output part by part.
abbrev pub ExplainedParts : {W : Type 0} → (Failure → Type 0) → ℕ → W → W → Option (List ℕ) → Option (List ℕ) → Type 0
ExplainedParts Why status out_old out_new old new = Failed (λ why. Why why × LeavesParts why out_old out_new) status old new

-- ---- reasons that several commands have

-- Why a text gives no table: it is no layout, by its first fault; or its table isn't sound, by the lowest fault of its
-- first faulty route.
abbrev pub ExplainsTable : List ℕ → Failure → Type 0
ExplainsTable text (Layout fault) = Fails fault (layout_in text)
ExplainsTable text (Table fault) = (site : Site) × (layout_in text ≡ Ok site) × IsFirstFault site fault
ExplainsTable text why = ⊥

-- Why there is no report on a text: it gives no table; or it gives one, and the report couldn't be written.
abbrev pub ExplainsReport : List ℕ → Failure → Type 0
ExplainsReport text NotWritten = (site : Site) × IsSound text site
ExplainsReport text why = ExplainsTable text why

-- A layout is sound, and lines of a second text can be read on it.
pub record ReadsLines {Lines : Type 0} (read : Site → Result Lines SessionFault) (layout : List ℕ) : Type 0 where
  pub site : Site
  pub sound : IsSound layout site
  pub says : IsOk (read site)

-- Why nothing is done by a layout and such lines: the layout gives no table; or a line is faulty, the first; or neither, but
-- memory is lacking, or the output couldn't be written.
abbrev pub ExplainsLines : {Lines : Type 0} → (Site → Result Lines SessionFault) → List ℕ → Failure → Type 0
ExplainsLines read layout (Line fault) = (site : Site) × IsSound layout site × FailsAt fault.line fault.number (read site)
ExplainsLines read layout OutOfMemory = ReadsLines read layout
ExplainsLines read layout NotWritten = ReadsLines read layout
ExplainsLines read layout why = ExplainsTable layout why

-- What can fail once the texts are without a fault: memory is lacking, or the output can't be written.
abbrev pub IsLate : Failure → Type 0
IsLate OutOfMemory = Unit {0}
IsLate NotWritten = Unit {0}
IsLate why = ⊥
