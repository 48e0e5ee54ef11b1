-- One more event, and a list of them, after a run of two ends.
use Rattle.std.proofs.Common.{◌≡◌, refl, List, [], ◌∷◌, ◌++◌}
use Rattle.rasta_core_spec.specs.Run.{Ends}
use Rattle.rasta_core_spec.specs.Events.{Event, MayRun, run}
use Rattle.rasta_core_spec.specs.Names.{Names}

pub run_then : (events later : List Event) (ends : Ends) → run (events ++ later) ends ≡ run later (run events ends)
run_then [] later ends = refl
run_then (first ∷ others) later ends = run_then others later _

pub may_then : (names : Names) (events later : List Event) (ends : Ends) → MayRun names events ends → MayRun names later (run events ends) → MayRun names (events ++ later) ends
may_then names [] later ends may may_later = may_later
may_then names (first ∷ others) later ends may may_later = (may.0, may_then names others later _ may.1 may_later)
