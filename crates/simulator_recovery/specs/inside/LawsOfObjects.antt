-- What points and detectors are told in a step.
use Rattle.std.specs.Prelude.{List, ℕ}
use Rattle.object_host_laws.specs.Point.{IsPointStep}
use Rattle.simulator_spec.specs.object_host.Host.{HostState}
use Rattle.simulator_spec.specs.object_host.Made.{ActsOn, items_taken}
use Rattle.simulator_spec.specs.object_host.Step.{host_step}
use Rattle.simulator_spec.specs.object_host.Told.{IsToldIn}
use Rattle.simulator_spec.specs.object_host.declared.input.Input.{Input}
use Rattle.simulator_spec.specs.point_ctl.Controlled.{point_behaviour}
use Rattle.simulator_spec.specs.point_ctl.Drive.{PointState}
use Rattle.simulator_spec.specs.rasta_core.Clock.{settled}
use Rattle.simulator_spec.specs.tds_ctl.Controlled.{detection_behaviour}
use Rattle.simulator_spec.specs.tds_ctl.declared.section.Section.{Section}

abbrev pub MakesStep : Type 0
MakesStep = (now : ℕ) (input : Input) (host : HostState PointState) → IsPointStep now input host (host_step point_behaviour now input host)

abbrev pub IsToldAlways : Type 0
IsToldAlways = (now : ℕ) (input : Input) (host : HostState (List Section)) → IsToldIn detection_behaviour now input host (host_step detection_behaviour now input host)

pub record LawsOfObjects : Type 0 where
  pub point_makes_a_step : MakesStep
  pub point_step_tells_what_was_taken : (now : ℕ) (input : Input) (host : HostState PointState)
      → ActsOn (items_taken now (host_step point_behaviour now input host).calls (settled now host.link)) (host_step point_behaviour now input host)
  pub detector_step_is_told_to_the_object : IsToldAlways
