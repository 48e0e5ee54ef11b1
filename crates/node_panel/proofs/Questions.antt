-- The question for the numbers.
use Rattle.std.proofs.Common.{◌≡◌, Bool, true, false, List, [], ◌∷◌, Result, Ok, Err, refl}
use Rattle.std.specs.Prelude.{OnErr, OnOk}
use Rattle.node_drive.specs.Calls.{BreaksOff, Call, Calls, Told, Writes}
use Rattle.node_panel.specs.Turns.{IsQuestion, IsQuestionIf, broken, question, whole}
use Rattle.node_panel.proofs.CallsOn.{calls_none}

-- it was written, or broken off
pub question_asked : {T E : Type 0} (result : Result T E) (old new : Told) → OnOk result (Calls old new (Writes question ∷ [])) → OnErr result (Calls old new (BreaksOff question ∷ []))
    → (calls : List Call) × Calls old new calls × IsQuestion calls
question_asked (Ok x) old new done failed = (Writes question ∷ [], done, whole)
question_asked (Err e) old new done failed = (BreaksOff question ∷ [], failed, broken)

-- it wasn't asked
pub nothing_asked : (told : Told) (wants : Bool) → wants ≡ false → (calls : List Call) × Calls told told calls × IsQuestionIf wants calls
nothing_asked told false is = ([], calls_none told, refl)
nothing_asked told true is = absurd (cc)
