-- Why a session isn't told to its end, and what that says of the texts and leaves of the output.
use Rattle.std.proofs.Common.{◌≡◌, ℕ, List, Result, Ok, Err, refl, subst, sym}
use Rattle.std.specs.Prelude.{IfErr, IsErrAnd}
use Rattle.replay.specs.ReplayedSession.{CanReplay, Explains}
use Rattle.replay.specs.station_check.Failures.{IsLate, LeavesParts}
use Rattle.replay.specs.station_check.declared.failure.Failure.{Failure}
use Rattle.replay.specs.station_check.declared.failure.Failure.TheVariants.{OutOfMemory, NotWritten}

-- a call is answered with a failure
pub told_on : {T E : Type 0} (P : E → Type 0) (tried : Result T E) (failure : E) → IsErrAnd tried (λ told. told ≡ failure) → P failure → IfErr tried P
told_on P (Ok answer) failure told holds = absurd told
told_on P (Err other) failure told holds = subst P (sym told) holds

-- texts without a fault, of which something failed later
pub late : {W : Type 0} (layout text : List ℕ) (why : Failure) (old new : W) → IsLate why → CanReplay layout text → Explains layout text why × LeavesParts why old new
late layout text OutOfMemory old new is can = (can, λ other. absurd (other refl))
late layout text NotWritten old new is can = (can, λ _ other. absurd (other refl))
late layout text other old new is can = absurd is
