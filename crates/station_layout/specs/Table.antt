-- The control table as it is written, and why there is none.
use Rattle.std.specs.Prelude.{◌≡◌, ℕ, List, Option}
use Rattle.std.specs.Io.KnownBytes.{Appends}
use Rattle.control_table.specs.layout.Entries.{Site}
use Rattle.station_check.specs.Failures.{ExplainsTable}
use Rattle.station_check.specs.Report.{IsSound}
use Rattle.station_check.specs.declared.failure.Failure.{Failure}
use Rattle.station_check.specs.declared.failure.Failure.TheVariants.{OutOfMemory, NotWritten}
use Rattle.station_layout.specs.declared.form.Form.{Form}
use Rattle.station_layout.specs.Lines.{IsTable}

-- The table was written.
abbrev pub Tabled : Form → Site → Option (List ℕ) → Option (List ℕ) → Type 0
Tabled form l old new = (text : List ℕ) × IsTable form l text × Appends old new text

-- Why there is no table of a text: it is no layout, or its table isn't sound; or memory is lacking; or the table is
-- sound, and couldn't be written.
abbrev pub Explains : List ℕ → Failure → Type 0
Explains text OutOfMemory = Unit {0}
Explains text NotWritten = (site : Site) × IsSound text site
Explains text failure = ExplainsTable text failure
