use Rattle.std.proofs.Common.{length}
use Rattle.route_derivation.proofs.lacking.+same_path.Given as goal

abbrev pub decreases-same_path : goal.decreases-same_path
decreases-same_path l = length l.one.now
