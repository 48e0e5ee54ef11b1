-- the laws that the body calls are those that a point's steps stand on
use Rattle.object_host_laws.proofs.Kept.{begun_reported, driven_inside, event_reported, gives_standing}
use Rattle.object_host_laws.proofs.PointReports.{step_reported}
use Rattle.object_host_laws.proofs.controllers.point_reports_its_moves.Goals as goal

pub returns-clause-starts : goal.returns-clause-starts
returns-clause-starts c = begun_reported c.steps_keep_a_host.ensures.clocked c.steps_keep_a_host.ensures.steady c.steps_keep_a_host.ensures.new

pub returns-clause-kept : goal.returns-clause-kept
returns-clause-kept c event world is_settled reported =
    event_reported c.steps_keep_a_host.ensures.clocked c.steps_keep_a_host.ensures.steady c.steps_keep_a_host.ensures.new event world
    (λ input connection. step_reported c.point_makes_a_step.ensures c.steps_keep_a_host.ensures.names c.steps_keep_a_host.ensures.hosted
    c.steps_keep_a_host.ensures.steady c.step_takes_and_gives.ensures.link c.step_takes_and_gives.ensures.given c.step_takes_and_gives.ensures.outside
    input connection world is_settled reported)
    reported

pub returns-clause-standing : goal.returns-clause-standing
returns-clause-standing c now input host = gives_standing now input host _ (c.point_makes_a_step.ensures now input host)

pub returns-clause-driven : goal.returns-clause-driven
returns-clause-driven c = driven_inside
