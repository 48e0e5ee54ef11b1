-- Lines that were kept, before those that are left.
use Rattle.std.proofs.Common.{◌≡◌, ℕ, List, [], ◌∷◌, ◌++◌, Result, Ok, Err, refl, ap, append_assoc}
use Rattle.replay_lines.specs.declared.text.SessionFault.{SessionFault}
use Rattle.replay_lines.specs.Text.{at_line}

-- what was kept before more lines, or their fault
abbrev pub behind : {A : Type 0} → List A → Result (List A) SessionFault → Result (List A) SessionFault
behind kept (Ok more) = Ok (kept ++ more)
behind kept (Err fault) = Err fault

-- one more line is kept
pub behind-one : {A : Type 0} (kept : List A) (number : ℕ) (this : A) (more : Result (List A) SessionFault)
    → behind (kept ++ this ∷ []) more ≡ behind kept (at_line number (Ok this) more)
behind-one kept number this (Ok more) = ap Ok (append_assoc kept (this ∷ []) more)
behind-one kept number this (Err fault) = refl
