-- A whole station: its nodes with their clocks, the network between them, where the points stand and which sections are
-- occupied. The nodes see none of this but their own clock, in whole milliseconds.
use Rattle.std.specs.Prelude.{ℕ, List, Option}
use Rattle.ixl_spec.specs.sci_telegram.declared.message.Occupancy.{Occupancy}
use Rattle.ixl_spec.specs.sci_telegram.declared.message.Position.{Position}
use Rattle.ixl_spec.specs.rasta_core.Links.{OnLink}
use Rattle.object_host.specs.Host.{HostState}
use Rattle.signal_ctl.specs.Signal.{SignalState}
use Rattle.point_ctl.specs.Drive.{PointState}
use Rattle.tds_ctl.specs.declared.section.Section.{Section}
use Rattle.ixl_spec.specs.State.{IxlState}
use Rattle.simulator_event.specs.declared.snapshot.Held.{Held}

-- An object controller, the server of its link to the interlocking.
pub record ClockedControllerState (Object : Type 0) : Type 0 where
  pub host : HostState Object
  -- its exact clock, in microseconds
  pub clock : ℕ
  -- the last connection that it entered, and how many datagrams were sent when it last left one or was made anew
  pub connection : Option ℕ
  pub left : ℕ

-- The interlocking, the client of every link. Links have the order of the nodes: signals, points, detectors.
pub record ClockedInterlockingState : Type 0 where
  pub ixl : IxlState
  -- its exact clock, in microseconds
  pub clock : ℕ
  -- the last connection that it began on each link
  pub connections : List (Option ℕ)

pub record WorldState : Type 0 where
  -- true time, in microseconds
  pub time : ℕ
  pub interlocking : ClockedInterlockingState
  pub signals : List (ClockedControllerState SignalState)
  pub points : List (ClockedControllerState PointState)
  pub detectors : List (ClockedControllerState (List Section))
  -- where each point stands, and whether each section is occupied
  pub positions : List Position
  pub occupancies : List Occupancy
  -- every datagram that was sent, with its link, oldest first; those not lost are the bag
  pub sent : List OnLink
  -- the pairs that were held when the interlocking was last made anew outside a hold
  pub frozen : List Held

-- a world as its contracts see it: its engineering data, its state, and how many steps have their memory already
pub record WorldView (Sited : Type 0) : Type 0 where
  pub sited : Sited
  pub run : WorldState
  pub room : ℕ
