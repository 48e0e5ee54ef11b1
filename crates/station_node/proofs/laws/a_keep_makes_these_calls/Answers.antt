use Rattle.std.proofs.Common.{◌≡◌, Bool, true, false, cond, [], refl}
use Rattle.whole_file.specs.Calls.{keep_calls}
use Rattle.whole_file.specs.Keeping.{calls_of, keep_moves}
use Rattle.station_node.specs.Closings.{makes_none}
use Rattle.station_node.proofs.laws.a_keep_makes_these_calls.Goals as goal

pub returns : goal.returns
returns c text outcome known kept = by (makes_none text outcome known)
  where
    by : (none : Bool) → calls_of (cond none [] (keep_moves text outcome.left outcome.happened outcome.failing)) kept ≡ cond none [] (keep_calls text outcome.failing)
    by true = refl
    by false = c.keep_makes_these_moves.ensures text outcome.left outcome.happened outcome.failing kept
