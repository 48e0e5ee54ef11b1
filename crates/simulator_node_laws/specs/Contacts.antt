-- What a contact leads to that tells again what it told last.
use Rattle.std.specs.Prelude.{◌≡◌, ℕ, List, []}
use Rattle.simulator_spec.specs.layout.declared.entries.Point.{Point as PointEntry}
use Rattle.simulator_spec.specs.layout.Entries.{DetectorEntry, Site}
use Rattle.simulator_spec.specs.object_host.Behaviour.{Behaviour}
use Rattle.simulator_spec.specs.object_host.Host.{HostState}
use Rattle.simulator_spec.specs.object_host.Step.{host_step}
use Rattle.simulator_spec.specs.object_host.declared.input.Input.{Input}
use Rattle.simulator_spec.specs.object_host.declared.input.Input.TheVariants as inputs
use Rattle.simulator_spec.specs.object_host.declared.sense.Sense.{Sense}
use Rattle.simulator_spec.specs.point_ctl.Controlled.{point_behaviour}
use Rattle.simulator_spec.specs.point_ctl.Drive.{PointState}
use Rattle.simulator_spec.specs.tds_ctl.Controlled.{detection_behaviour}
use Rattle.simulator_spec.specs.tds_ctl.declared.section.Section.{Section}
use Rattle.simulator_spec.specs.sci_telegram.declared.message.Occupancy.{Occupancy}
use Rattle.simulator_spec.specs.sci_telegram.declared.message.Position.{Position}
use Rattle.simulator_spec.specs.First.{new_point}
use Rattle.simulator_spec.specs.Happens.{coming}
use Rattle.simulator_node_laws.specs.Lives.{Life, detector_sensing}
use Rattle.simulator_node_laws.specs.Shown.{host_now}

-- bytes that are no PDU: an empty datagram
abbrev pub noise : List ℕ
noise = []

-- A contact leads a controller where noise leads it: it is in the same state, and has handed out the same.
pub record IsAsNoise {Object : Type 0} (does : Behaviour Object) (now : ℕ) (contact : Sense) (host : HostState Object) : Type 0 where
  pub host_is : (host_step does now (inputs.Sense contact) host).host ≡ (host_step does now (coming noise) host).host
  pub pdus_are : (host_step does now (inputs.Sense contact) host).pdus ≡ (host_step does now (coming noise) host).pdus

-- the controller of a point by its life
abbrev pub point_now : Site → PointEntry → Life Position Input → HostState PointState
point_now site entry life = host_now point_behaviour (λ begins position. new_point site begins position entry) life

-- and that of a detector
abbrev pub detector_now : Site → DetectorEntry → Life (List Occupancy) Input → HostState (List Section)
detector_now site entry life = host_now detection_behaviour (λ begins sensed. detector_sensing site begins sensed entry) life
