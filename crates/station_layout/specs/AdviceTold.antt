-- What is told after the line of a fault.
use Rattle.std.specs.Prelude.{◌≡◌, ◌⊎◌, ◌≤◌, ℕ, List, length, take, Option, None, Ok}
use Rattle.std.specs.Option.{option_map, unwrap_or}
use Rattle.std.specs.Io.KnownBytes.{Appends}
use Rattle.control_table.specs.layout.Entries.{Site}
use Rattle.control_table.specs.layout.NamesResolved.{layout_in}
use Rattle.control_table.specs.Faults.{IsFirstFault}
use Rattle.control_table.specs.Table.{Sound}
use Rattle.control_table.specs.declared.fault.TableFault.{TableFault}
use Rattle.layout_text.specs.FirstFault.{Fails}
use Rattle.layout_text.specs.Text.{document_of, text_of}
use Rattle.layout_text.specs.Written.{LayoutText}
use Rattle.layout_text.specs.declared.fault.LayoutFault.{LayoutFault}
use Rattle.layout_text.specs.declared.fault.LayoutFault.TheVariants as fault
use Rattle.toml.specs.Data.{Members}
use Rattle.toml.specs.Parse.{parse_document}
use Rattle.station_check.specs.Failures.{Explained, ExplainsReport}
use Rattle.station_layout.specs.Advice.{advice_line}
use Rattle.station_layout.specs.EntryAdvice.{missing_told, wrong_told}
use Rattle.station_layout.specs.Places.{place_behind}
use Rattle.station_layout.specs.RouteDetails.{table_advice}
use Rattle.station_layout.specs.SharedAdvice.{double_told, port_told}
use Rattle.station_layout.specs.UnknownAdvice.{unknown_told}
use Rattle.station_layout.specs.declared.advice.Advice.{Advice}
use Rattle.station_layout.specs.declared.advice.Advice.TheVariants.{Broken, Entry, Layout, Nothing}
use Rattle.station_layout.specs.declared.advice.EntryAdvice.{EntryAdvice}

-- The advice for a text that is no TOML: the place after some beginning of it, where reading stopped; or the fault alone,
-- where memory was lacking when it was read once more.
abbrev pub IsBroken : List ℕ → Advice → Type 0
IsBroken text (Broken at) = (n : ℕ) × (n ≤ length text) × (at ≡ place_behind (take n text))
IsBroken text (Layout f) = f ≡ fault.Toml
IsBroken text advice = ⊥

-- The advice by what the document of a text has.
abbrev pub IsByDocument : List ℕ → (Members → Advice) → Advice → Type 0
IsByDocument text advice_of advice = (document : Members) × (document_of (parse_document text) ≡ Ok document) × (advice ≡ advice_of document)

-- The advice by what a text writes.
abbrev pub IsByWritten : List ℕ → (LayoutText → Advice) → Advice → Type 0
IsByWritten text advice_of advice =
    (document : Members) × (document_of (parse_document text) ≡ Ok document) × (w : LayoutText) × (text_of document ≡ Ok w) × (advice ≡ advice_of w)

-- What the document tells of a fault, where that is found.
unfoldable pub document_told : Members → LayoutFault → Option EntryAdvice
document_told document (fault.MissingKey place) = missing_told document place
document_told document (fault.WrongKind place) = wrong_told document place
document_told document f = None

unfoldable pub document_advice : Members → LayoutFault → Advice
document_advice document f = unwrap_or (option_map Entry (document_told document f)) (Layout f)

-- What the text writes tells of a fault, where that is found.
unfoldable pub written_told : LayoutText → LayoutFault → Option EntryAdvice
written_told w (fault.UnknownName place) = unknown_told w place
written_told w (fault.DoubleName place) = double_told w place
written_told w (fault.DoubleJoint place) = port_told w place
written_told w f = None

unfoldable pub written_advice : LayoutText → LayoutFault → Advice
written_advice w f = unwrap_or (option_map Entry (written_told w f)) (Layout f)

-- The advice for a fault of a layout.
abbrev pub IsFaultAdvice : List ℕ → LayoutFault → Advice → Type 0
IsFaultAdvice text fault.Toml advice = IsBroken text advice
IsFaultAdvice text (fault.MissingKey place) advice = IsByDocument text (λ document. document_advice document (fault.MissingKey place)) advice
IsFaultAdvice text (fault.WrongKind place) advice = IsByDocument text (λ document. document_advice document (fault.WrongKind place)) advice
IsFaultAdvice text (fault.UnknownName place) advice = IsByWritten text (λ w. written_advice w (fault.UnknownName place)) advice
IsFaultAdvice text (fault.DoubleName place) advice = IsByWritten text (λ w. written_advice w (fault.DoubleName place)) advice
IsFaultAdvice text (fault.DoubleJoint place) advice = IsByWritten text (λ w. written_advice w (fault.DoubleJoint place)) advice
IsFaultAdvice text f advice = advice ≡ Layout f

-- The same, or that memory was lacking when the text was read once more.
abbrev pub IsLayoutAdvice : List ℕ → LayoutFault → Advice → Type 0
IsLayoutAdvice text f advice = IsFaultAdvice text f advice ⊎ (advice ≡ Layout fault.OutOfMemory)

-- The advice for the table of a layout.
abbrev pub IsTableAdvice : Site → Advice → Type 0
IsTableAdvice site advice = ((f : TableFault) × IsFirstFault site f × (advice ≡ table_advice site f)) ⊎ (Sound site × (advice ≡ Nothing))

-- The advice for a text: for its first fault, and none where it is sound. Nothing is said of want of memory.
abbrev pub IsAdvice : List ℕ → Advice → Type 0
IsAdvice text advice =
    ((f : LayoutFault) × Fails f (layout_in text) × IsLayoutAdvice text f advice) ⊎ ((site : Site) × (layout_in text ≡ Ok site) × IsTableAdvice site advice)

-- The advice for a text was told, as far as the writer took it, and nothing else.
abbrev pub Advised : List ℕ → Option (List ℕ) → Option (List ℕ) → Type 0
Advised text old new = (advice : Advice) × IsAdvice text advice × ((told : ℕ) × Appends old new (take told (advice_line advice)))

-- Why there is no report was told as `check_text` tells it, and then the advice.
abbrev pub ExplainedTwice : {W : Type 0} → ℕ → List ℕ → W → W → Option (List ℕ) → Option (List ℕ) → Type 0
ExplainedTwice status text out_old out_new old new =
    (between : Option (List ℕ)) × Explained (ExplainsReport text) status out_old out_new old between × Advised text between new
