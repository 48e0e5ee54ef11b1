-- How old a datagram is that is heard: what its sender, the network and its receiver take of 2000 ms.
use Rattle.std.specs.Prelude.{◌≡◌, ◌≤◌, ◌<◌, ◌+◌, ℕ, List, [], Some, slice_get}
use Rattle.node_kinds.specs.simulator_spec.First.{Outset}
use Rattle.node_kinds.specs.simulator_spec.ixl_spec.Table.{Table}
use Rattle.node_kinds.specs.simulator_spec.layout.Entries.{Site}
use Rattle.node_kinds.specs.simulator_spec.simulator_event.declared.event.Event.{Event}
use Rattle.node_kinds.specs.simulator_spec.rasta_core.Ends.{reading_of}
use Rattle.node_kinds.specs.simulator_spec.rasta_core.TrueClocks.{IsSteady, Moment}
use Rattle.simulator_node_laws.specs.Said.{Departure, departures_in}

-- The moments on the way of a datagram, each in true time, with the clock of the node that reads it.
pub record Journey : Type 0 where
  -- at its sender: the step that handed it out, and the last reading in front of its sending
  pub handed_out : Moment
  pub sent : Moment
  -- the true time at which it came to its receiver, in microseconds
  pub came : ℕ
  -- at its receiver: a reading behind which none was found to wait, and the reading at which it is heard
  pub empty : Moment
  pub heard : Moment

-- Each keeps to its share. The clocks are those of real machines.
pub record IsInTime (journey : Journey) : Type 0 where
  -- the sender: proved of processes and of programs
  pub sender : IsSteady journey.handed_out journey.sent
  pub sent_soon : reading_of journey.sent.clock < reading_of journey.handed_out.clock + 500
  -- The network, and the sender's machine after that reading: 1000 ms. This is a premise.
  pub carried : journey.came ≤ journey.sent.at + 1000000
  -- It hadn't come at the reading behind which none was found to wait, or less than 90 ms before. Of a process the first half is
  -- proved by what its calls answer. Of a program it is what its driver has to see to: `before` is read in front of the receive that finds
  -- nothing, which looks wherever a datagram may lie.
  pub none_waited : journey.empty.at ≤ journey.came + 90000
  -- the receiver: proved of processes and of programs
  pub receiver : IsSteady journey.empty journey.heard
  pub heard_soon : reading_of journey.heard.clock ≤ reading_of journey.empty.clock + 400

-- These bytes left a node in these events, in a step less than 500 ms before this reading of its clock.
pub record HasLeft (site : Site) (table : Table) (outset : Outset) (events : List Event) (now : ℕ) (bytes : List ℕ) : Type 0 where
  pub place : ℕ
  pub departure : Departure
  pub left : slice_get (departures_in site table outset [] events) place ≡ Some departure
  pub same : departure.bytes ≡ bytes
  pub soon : now < departure.reading + 500
