-- a host tells its point what the step is
use Rattle.object_host_laws.proofs.Points.{point_step}
use Rattle.object_host_laws.proofs.controllers.point_makes_a_step.Goals as goal

pub returns : goal.returns
returns c now input host = point_step now input host _ (c.step_is_told_to_the_object.ensures now input host)
