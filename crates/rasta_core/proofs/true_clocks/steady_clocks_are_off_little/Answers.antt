use Rattle.rasta_core.proofs.TrueClocks.{goes_off_since}
use Rattle.rasta_core.proofs.true_clocks.steady_clocks_are_off_little.Goals as goal

pub returns : goal.returns
returns c = goes_off_since
