-- Why a record isn't told to its end, and what that says of the texts and leaves of the output.
use Rattle.std.proofs.Common.{◌≡◌, ℕ, List, IsOk, Option, Result, Ok, Err, map, refl, rules, subst, sym}
use Rattle.std.specs.Prelude.{IfErr, IfOk, IsErrAnd, OnOk}
use Rattle.std.specs.Io.KnownBytes.{Appends}
use Rattle.capture_file.specs.Faults.{IsOfFile}
use Rattle.capture_file.specs.declared.fault.CaptureFault.{CaptureFault}
use Rattle.capture_file.specs.declared.fault.CaptureFault.TheVariants.{TooLong, Exists, CannotWrite}
use Rattle.control_table.specs.layout.Entries.{Site}
use Rattle.station_check.specs.Failures.{ExplainsTable, IsLate, LeavesParts}
use Rattle.station_check.specs.Report.{IsSound}
use Rattle.station_check.specs.declared.failure.Failure.{Failure}
use Rattle.station_check.specs.declared.failure.Failure.TheVariants.{Capture, OutOfMemory, NotWritten}
use Rattle.node_record.specs.CapturedRecord.{Explains, HasCapture, IsCaptureOf, IsRecordCapture}
use Rattle.node_record.specs.DecodedRecord.{CanRead, ExplainsRecord, IsDecoded}
use Rattle.node_record.specs.NodeEnds.{Ends}
use Rattle.node_record.specs.NodeLines.{lines_text}
use Rattle.node_record.specs.NodeTraffic.{traffic}
use Rattle.node_record.specs.RecordLines.{told}
use Rattle.node_record.specs.Records.{record_said}
use Rattle.node_record.specs.declared.record.Record.{Record}
use Rattle.node_record.specs.inside.CapturesSoFar.{IsNoCapture}
use Rattle.node_record.specs.inside.RecordsRead.{said}
use Rattle.node_record.specs.inside.SoundTexts.{AreTexts}

-- a call is answered with a failure
pub told_on : {T E : Type 0} (P : E → Type 0) (tried : Result T E) (failure : E) → IsErrAnd tried (λ told. told ≡ failure) → P failure → IfErr tried P
told_on P (Ok answer) failure told holds = absurd told
told_on P (Err other) failure told holds = subst P (sym told) holds

-- the layout gives no table
pub without_table : (layout name text : List ℕ) (why : Failure) → ExplainsTable layout why → ExplainsRecord layout name text why
without_table layout name text why explains = search rules

-- texts without a fault, of which something failed later
pub late : (layout name text : List ℕ) (why : Failure) → IsLate why → CanRead layout name text → ExplainsRecord layout name text why
late layout name text OutOfMemory is can = can
late layout name text NotWritten is can = can
late layout name text other is can = absurd is

parts_left : {W : Type 0} (why : Failure) (old new : W) → IsLate why → LeavesParts why old new
parts_left OutOfMemory old new is = λ other. absurd (other refl)
parts_left NotWritten old new is = λ _ other. absurd (other refl)
parts_left other old new is = absurd is

pub late_told : {W T : Type 0} (layout name text : List ℕ) (tried : Result T Failure) (old new : W) → IfErr tried IsLate → CanRead layout name text
    → IfErr tried (λ failure. ExplainsRecord layout name text failure × LeavesParts failure old new)
late_told layout name text (Ok done) old new is can = tt
late_told layout name text (Err why) old new is can = (late layout name text why is can, parts_left why old new is)

-- the traffic of texts was told
pub decoded : {T E : Type 0} (layout name text : List ℕ) (site drawn : Site) (read : Record) (before now : Option (List ℕ)) (tried : Result T E) → AreTexts layout name text site read → drawn ≡ site
    → OnOk tried (Appends before now (lines_text drawn read.head.node (traffic read.head.node 0 (map told read.lines.items)))) → OnOk tried (IsDecoded layout name text before now)
decoded layout name text site drawn read before now (Ok done) are same appended = record {
  site = site;
  sound = are.sound;
  head = read.head;
  lines = map told read.lines.items;
  says = are.says;
  appended = subst (λ (s : Site). Appends before now (lines_text s read.head.node (traffic read.head.node 0 (map told read.lines.items)))) same appended;
}
decoded layout name text site drawn read before now (Err why) are same appended = tt

-- ---- captures

-- texts have a capture
pub captured : {F E : Type 0} (bytes : F → List ℕ) (layout name text : List ℕ) (site : Site) (read : Record) (given : Ends) (tried : Result F E) → AreTexts layout name text site read
    → IfOk tried (λ file. IsCaptureOf given read.head.node (traffic read.head.node 0 (map told read.lines.items)) (bytes file)) → IfOk tried (λ file. IsRecordCapture layout name text given (bytes file))
captured bytes layout name text site read given (Ok file) are is = record { site = site; sound = are.sound; head = read.head; lines = map told read.lines.items; says = are.says; is = is }
captured bytes layout name text site read given (Err why) are is = tt

-- texts that were read
pub are_texts : (layout name text : List ℕ) (site drawn : Site) (read : Record) → IsSound layout site → drawn ≡ site → record_said drawn name text ≡ Ok (said read) → AreTexts layout name text site read
are_texts layout name text site drawn read sound same says = record { sound = sound; says = subst (λ (s : Site). record_said s name text ≡ Ok (said read)) same says }

-- they can be read
pub can_read : (layout name text : List ℕ) (site : Site) (read : Record) → AreTexts layout name text site read → CanRead layout name text
can_read layout name text site read are = record { site = site; sound = are.sound; says = subst IsOk (sym are.says) refl }

-- or they have none
pub no_capture : (layout name text : List ℕ) (site : Site) (read : Record) (given : Ends) (why : Failure) → AreTexts layout name text site read
    → IsNoCapture (traffic read.head.node 0 (map told read.lines.items)) why → Explains layout name text given why
no_capture layout name text site read given OutOfMemory are so = can_read layout name text site read are
no_capture layout name text site read given (Capture TooLong) are so = record { site = site; sound = are.sound; head = read.head; lines = map told read.lines.items; says = are.says; has = so }
no_capture layout name text site read given other are so = absurd so

pub none_told : {T : Type 0} (layout name text : List ℕ) (site : Site) (read : Record) (given : Ends) (tried : Result T Failure) → AreTexts layout name text site read
    → IfErr tried (IsNoCapture (traffic read.head.node 0 (map told read.lines.items))) → IfErr tried (Explains layout name text given)
none_told layout name text site read given (Ok file) are so = tt
none_told layout name text site read given (Err why) are so = no_capture layout name text site read given why are so

-- or the file of one is at fault
pub file_at_fault : (layout name text : List ℕ) (given : Ends) (fault : CaptureFault) → HasCapture layout name text given → IsOfFile fault → Explains layout name text given (Capture fault)
file_at_fault layout name text given TooLong has is = absurd is
file_at_fault layout name text given Exists has is = has
file_at_fault layout name text given CannotWrite has is = has
