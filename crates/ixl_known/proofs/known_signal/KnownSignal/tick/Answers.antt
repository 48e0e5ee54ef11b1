use Rattle.std.proofs.Common.{[]}
use Rattle.ixl_known.proofs.Went.{known_signal_in, known_signal_ticks}
use Rattle.ixl_known.proofs.known_signal.KnownSignal.tick.Goals as goal

pub returns : goal.returns
returns c = known_signal_in _ _ _ _ _ _ _ _ c.self.view_is (known_signal_ticks _ _ _ _ _ _ (c.tick.ensures []) c.fall.ensures)
