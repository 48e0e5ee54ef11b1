use Rattle.whole_file.proofs.Sound.{makes_these_moves}
use Rattle.whole_file.proofs.laws.keep_makes_these_moves.Goals as goal

pub returns : goal.returns
returns c = makes_these_moves
