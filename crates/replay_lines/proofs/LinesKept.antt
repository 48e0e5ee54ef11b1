-- Lines that were kept, before those that are left.
use Rattle.std.proofs.Common.{◌≡◌, ◌∙◌, ℕ, Bool, false, if◌then◌else◌, sym, List, [], ◌∷◌, ◌++◌, Result, Ok, Err, refl, ap, append_assoc}
use Rattle.replay_words.specs.declared.fault.Fault.{Fault}
use Rattle.replay_lines.specs.declared.text.SessionFault.{SessionFault}
use Rattle.replay_words.specs.Cut.{is_passed_over}
use Rattle.ixl_spec.specs.layout.Entries.{Site}
use Rattle.replay_lines.specs.declared.line.SimLine.{SimLine}
use Rattle.replay_lines.specs.Text.{at_line, before, line_behind, said}

-- what was kept before more lines, or their fault
abbrev pub behind : {A : Type 0} → List A → Result (List A) SessionFault → Result (List A) SessionFault
behind kept (Ok more) = Ok (kept ++ more)
behind kept (Err fault) = Err fault

-- one more line is kept
pub behind-one : {A : Type 0} (kept : List A) (number : ℕ) (this : A) (more : Result (List A) SessionFault)
    → behind (kept ++ this ∷ []) more ≡ behind kept (at_line number (Ok this) more)
behind-one kept number this (Ok more) = ap Ok (append_assoc kept (this ∷ []) more)
behind-one kept number this (Err fault) = refl

-- what a line says is kept
pub behind_next : (site : Site) (kept new : List SimLine) (number : ℕ) (text : List ℕ) (old rest : List (ℕ × List ℕ)) (whole : Result (List SimLine) SessionFault) (this : SimLine)
    → old ≡ (number, text) ∷ rest → is_passed_over text ≡ false → line_behind site kept text ≡ Ok this → new ≡ kept ++ this ∷ []
    → behind kept (said site kept old) ≡ whole → behind new (said site new rest) ≡ whole
behind_next site kept new number text old rest whole this split is_line says more before_it =
    let on : SimLine → Result (List SimLine) SessionFault = λ next. said site (kept ++ next ∷ []) rest in
    let chosen : Bool → Result (List SimLine) SessionFault = λ passed. if passed then said site kept rest else before number (line_behind site kept text) on in
    ap (λ (list : List SimLine). behind list (said site list rest)) more
    ∙ behind-one kept number this (said site (kept ++ this ∷ []) rest)
    ∙ sym (ap (λ (read : Result SimLine Fault). behind kept (before number read on)) says)
    ∙ sym (ap (λ (passed : Bool). behind kept (chosen passed)) is_line)
    ∙ sym (ap (λ (left : List (ℕ × List ℕ)). behind kept (said site kept left)) split)
    ∙ before_it
