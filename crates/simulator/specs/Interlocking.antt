-- The interlocking of a world: what it keeps, and what its steps send.
use Rattle.std.specs.Prelude.{◌≡◌, ◌+◌, ◌≤◌}
use Rattle.ixl_state.specs.ixl_spec.StepSoFar.{StepSoFar}
use Rattle.ixl_state.specs.ixl_spec.Step as ixl
use Rattle.ixl_state.specs.ixl_table.Table.{SitedTable}
use Rattle.simulator_field.specs.Network.{NetworkState}
use Rattle.simulator_spec.specs.State.{ClockedInterlockingState}
use Rattle.simulator_spec.specs.Interlocking.{Sending, interlocking_reply, interlocking_step, sending_all}

-- the interlocking of a world as contracts see it: its table, and its state
pub record ClockedInterlockingView : Type 0 where
  pub sited : SitedTable
  pub interlocking : ClockedInterlockingState

-- what a step does
abbrev pub done_by : ixl.Input → ClockedInterlockingView → StepSoFar
done_by input view = interlocking_step view.sited.site view.sited.table input view.interlocking

-- what a step sends
abbrev pub sending_after : ixl.Input → ClockedInterlockingView → NetworkState → Sending
sending_after input view network =
    sending_all view.sited.site network.time (done_by input view).outbox.datagrams (record { connections = view.interlocking.connections; sent = network.sent })

-- A step was made at the interlocking's clock: what it handed out was sent, one datagram after another, and this was answered.
pub record HasSteppedAndSent (input : ixl.Input) (old : ClockedInterlockingView) (before : NetworkState) (new : ClockedInterlockingView) (after : NetworkState) (answer : ixl.Reply) : Type 0 where
  pub sited : new.sited ≡ old.sited
  pub interlocking : new.interlocking ≡ record old.interlocking { ixl = (done_by input old).ixl; connections = (sending_after input old before).connections }
  pub sent : after.sent ≡ (sending_after input old before).sent
  pub time : after.time ≡ before.time
  pub room : before.room ≤ after.room + 5120
  pub answered : answer ≡ interlocking_reply old.sited.site old.sited.table input old.interlocking
