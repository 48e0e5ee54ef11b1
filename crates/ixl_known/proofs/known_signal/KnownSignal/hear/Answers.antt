use Rattle.std.proofs.Common.{ap, ◌∙◌}
use Rattle.ixl_spec.specs.Step.{indicated_heard}
use Rattle.ixl_known.proofs.Went.{known_signal_hears, known_signal_in}
use Rattle.ixl_known.proofs.known_signal.KnownSignal.hear.Goals as goal

pub returns-clause-goes : goal.returns-clause-goes
returns-clause-goes c = known_signal_in _ _ _ _ _ _ _ _ c.self.view_is (known_signal_hears _ _ _ _ _ _ _ _ _ c.receive-verdict.ensures.goes (c.indicated_heard-self-inside.ensures ∙ ap (λ told. indicated_heard told c.self.inside.indicated) c.as_slice.ensures.value) c.fall.ensures)
