use Rattle.ixl_known.proofs.Went.{known_signal_kept, known_signal_settles}
use Rattle.ixl_known.proofs.known_signal.KnownSignal.settle.Goals as goal

pub returns-clause-known_signal : goal.returns-clause-known_signal
returns-clause-known_signal c = known_signal_settles _ _ _ _ _ c.self.view_is c.settle.ensures.client c.fall.ensures

pub returns-clause-kept : goal.returns-clause-kept
returns-clause-kept c = known_signal_kept _ _ _ _ _ c.self.view_is c.settle.ensures.kept c.fall.ensures
