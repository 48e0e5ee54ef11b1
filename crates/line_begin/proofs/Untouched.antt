-- A place that isn't touched tells no further call.
use Rattle.std.proofs.Common.{◌≡◌, List, [], Option, Some, None, refl, ap}
use Rattle.std.proofs.lemmas.List.{append-nil}
use Rattle.whole_file.specs.Calls.{Made, recorded}

pub nothing_recorded : (calls : Option (List Made)) → recorded [] calls ≡ calls
nothing_recorded None = refl
nothing_recorded (Some calls) = ap Some (append-nil calls)
