-- What holds where a call succeeds.
use Rattle.std.proofs.Common.{Result, Ok, Err}
use Rattle.std.specs.Result.{OnOk}

pub ok_met : {T E : Type 0} {A B : Type 0} (result : Result T E) → (A → B) → OnOk result A → OnOk result B
ok_met (Ok value) leads is = leads is
ok_met (Err error) leads is = tt
