-- What is known of a result by its error, or where it has none.
use Rattle.std.proofs.Common.{◌≡◌, Some, None, Result, Ok, Err, ap, subst, sym}
use Rattle.std.proofs.lemmas.Option.{none-some}
use Rattle.std.specs.Option.{unwrap_or}
use Rattle.std.specs.Prelude.{IfErr, IfOk}
use Rattle.std.specs.Result.{result_err}

pub of_fault : {T E : Type 0} (P : E → Type 0) (r : Result T E) (why : E) → IfErr r P → result_err r ≡ Some why → P why
of_fault P (Ok x) why holds is = absurd (none-some why is)
of_fault P (Err e) why holds is = subst P (ap (λ o. unwrap_or o e) is) holds

pub of_none : {T E : Type 0} (P : Type 0) (r : Result T E) → IfOk r (λ _. P) → result_err r ≡ None → P
of_none P (Ok x) holds is = holds
of_none P (Err e) holds is = absurd (none-some e (sym is))
