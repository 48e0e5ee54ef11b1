-- What a line tells, by the form that the table of forms has for its first word.
use Rattle.std.proofs.Common.{◌≡◌, ◌≢◌, ℕ, Bool, true, false, List, [], ◌∷◌, Option, Some, None, Result, Err, refl}
use Rattle.std.specs.Prelude.{if◌then◌else◌, codes}
use Rattle.std.specs.Str.{bytes_eq}
use Rattle.control_table.specs.layout.Entries.{Site}
use Rattle.replay_words.specs.declared.fault.Fault.{Fault}
use Rattle.replay_words.specs.declared.fault.Fault.TheVariants.{Words}
use Rattle.node_record.specs.RecordLines.{Line, comes, line_said, sends, throws_away}
use Rattle.node_record.specs.inside.FormsSaid.{other_said}
use Rattle.node_record.specs.declared.record_line.Form.{Form}
use Rattle.node_record.specs.declared.record_line.Form.TheVariants as form

abbrev Row : Type 0
Row = List ℕ × Form

abbrev forms : List Row
forms =
    (codes "at", form.Reads) ∷ (codes "from", form.Comes) ∷ (codes "sends", form.Sends) ∷ (codes "throws", form.ThrowsAway)
    ∷ (codes "listens", form.Alone) ∷ (codes "closed", form.Alone) ∷ (codes "fails", form.Fails) ∷ (codes "hears", form.Followed)
    ∷ (codes "writes", form.Followed) ∷ (codes "breaks", form.BreaksOff) ∷ (codes "complains", form.Complains) ∷ (codes "keeps", form.Followed) ∷ []

abbrev form_in : List ℕ → List Row → Option Form
form_in first [] = None
form_in first (row ∷ more) = if bytes_eq first row.0 then Some row.1 else form_in first more

abbrev pub said_by : Site → List (List ℕ) → Option Form → Result Line Fault
said_by site rest None = Err Words
said_by site rest (Some form.Comes) = comes site rest
said_by site rest (Some form.Sends) = sends site rest
said_by site rest (Some form.ThrowsAway) = throws_away rest
said_by site rest (Some other) = other_said other rest

abbrev said_in : Site → List (List ℕ) → List ℕ → List Row → Result Line Fault
said_in site rest first [] = Err Words
said_in site rest first (row ∷ more) = if bytes_eq first row.0 then said_by site rest (Some row.1) else said_in site rest first more

choice : (site : Site) (rest : List (List ℕ)) (is : Bool) (one : Form) (said : Result Line Fault) (more : Option Form) → said ≡ said_by site rest more
    → (if is then said_by site rest (Some one) else said) ≡ said_by site rest (if is then Some one else more)
choice site rest true one said more same = refl
choice site rest false one said more same = same

by_rows : (site : Site) (rest : List (List ℕ)) (first : List ℕ) (rows : List Row) → said_in site rest first rows ≡ said_by site rest (form_in first rows)
by_rows site rest first [] = refl
by_rows site rest first (row ∷ more) = choice site rest (bytes_eq first row.0) row.1 (said_in site rest first more) (form_in first more) (by_rows site rest first more)

pub line_by_form : (site : Site) (rest : List (List ℕ)) (first : List ℕ) → line_said site (first ∷ rest) ≡ said_by site rest (form_in first forms)
line_by_form site rest first = by_rows site rest first forms

pub other_form : (site : Site) (rest : List (List ℕ)) (told : Form) → told ≢ form.Comes → told ≢ form.Sends → told ≢ form.ThrowsAway
    → said_by site rest (Some told) ≡ other_said told rest
other_form site rest form.Comes comes sends throws = absurd (comes refl)
other_form site rest form.Sends comes sends throws = absurd (sends refl)
other_form site rest form.ThrowsAway comes sends throws = absurd (throws refl)
other_form site rest form.Reads comes sends throws = refl
other_form site rest form.Fails comes sends throws = refl
other_form site rest form.Alone comes sends throws = refl
other_form site rest form.Followed comes sends throws = refl
other_form site rest form.BreaksOff comes sends throws = refl
other_form site rest form.Complains comes sends throws = refl
