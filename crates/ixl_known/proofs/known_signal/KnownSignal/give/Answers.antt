use Rattle.std.proofs.Common.{[], ap, ◌∙◌}
use Rattle.ixl_spec.specs.rasta_core.State.{LinkState}
use Rattle.ixl_known.proofs.Went.{gives_aspect, known_signal_in}
use Rattle.ixl_known.proofs.known_signal.KnownSignal.give.Goals as goal

pub returns : goal.returns
returns c = known_signal_in _ _ _ _ _ _ _ _ c.self.view_is (gives_aspect _ _ _ _ _ _ _ _ (c.command.ensures []) (c.given-self-inside.ensures ∙ ap (λ (l : LinkState). l.given) c.link.ensures.link) c.fall.ensures)
