use Rattle.std.proofs.Common.{ap, ◌∙◌}
use Rattle.ixl_spec.specs.Step.{side_heard}
use Rattle.ixl_known.proofs.Went.{known_point_hears, known_point_in}
use Rattle.ixl_known.proofs.known_point.KnownPoint.hear.Goals as goal

pub returns-clause-goes : goal.returns-clause-goes
returns-clause-goes c = known_point_in _ _ _ _ _ _ _ _ c.self.view_is (known_point_hears _ _ _ _ _ _ _ _ _ c.receive-verdict.ensures.goes (c.side_heard-self-inside.ensures ∙ ap (λ told. side_heard told c.self.inside.side) c.as_slice.ensures.value) c.fall.ensures)
