-- A whole step, from the clock to what each link does on a tick.
use Rattle.std.proofs.Common.{◌≡◌, ℕ, List}
use Rattle.std.specs.Prelude.{length}
use Rattle.ixl_spec.specs.rasta_core.Outbox.{OutboxState}
use Rattle.ixl_spec.specs.rasta_pdu.declared.key.Key.{Key}
use Rattle.ixl_spec.specs.ixl_client.Made.{ActsOn, MakesAfterReceipt}
use Rattle.ixl_spec.specs.ixl_client.ClientSoFar as client
use Rattle.ixl_spec.specs.ixl_client.Step.{hearing}
use Rattle.ixl_spec.specs.StepSoFar.{StepSoFar, begun_with}
use Rattle.ixl_spec.specs.State.{IxlState}
use Rattle.ixl_spec.specs.Step.{Commands, Datagram, Input, Tick, stepped, ticked}
use Rattle.ixl_spec.specs.Table.{Table as Rows}
use Rattle.simulator_machine.specs.Chains.{MovesTo, PointMayChain, SignalMayChain, point_chained, signal_chained}
use Rattle.simulator_machine.specs.Machine.{Machine, with_point, with_signal}
use Rattle.simulator_machine.specs.Point.{PointMove}
use Rattle.simulator_machine.specs.Signal.{SignalMove}
use Rattle.simulator_move_laws.specs.Behind.{LeadsBehind}
use Rattle.simulator_move_laws.specs.MachineSoFar.{Leads, until_ticked}
use Rattle.simulator_move_laws.specs.Facts.{FarEnds}
use Rattle.simulator_move_laws.specs.Onward.{IsStepped}
use Rattle.simulator_move_laws.specs.Rows.{AreHeldAtFirst, machine_table}
use Rattle.simulator_move_laws.specs.Sees.{Given, Sees}
use Rattle.simulator_move_laws.proofs.Interlocking.StepsSeen.{sees_behind}
use Rattle.simulator_move_laws.proofs.Interlocking.Steps.{steps_so}
use Rattle.simulator_move_laws.proofs.Interlocking.Ticks.{during_is_behind, ticks_lead}

module _ (now : ℕ) (rows : Rows) (ixl : IxlState) (given : Given) (machine : Machine)
    (chain_signal : (machine : Machine) (place : ℕ) (moves : List SignalMove) → SignalMayChain moves (machine.signals place)
    → MovesTo (machine_table rows) machine (with_signal place (signal_chained moves (machine.signals place)) machine))
    (chain_point : (machine : Machine) (place : ℕ) (moves : List PointMove) → PointMayChain moves (machine.points place)
    → MovesTo (machine_table rows) machine (with_point place (point_chained moves (machine.points place)) machine))
    (onward : (old between new : Machine) → MovesTo (machine_table rows) old between → MovesTo (machine_table rows) between new → MovesTo (machine_table rows) old new)
    (acts : (now : ℕ) (bytes : List ℕ) (part : client.ClientSoFar) → ActsOn now bytes part (hearing now bytes part))
    (receipt : (now : ℕ) (bytes : List ℕ) (part : client.ClientSoFar) → MakesAfterReceipt now bytes part (hearing now bytes part))
    (at_first : AreHeldAtFirst rows) (counted : length ixl.routes ≡ length rows.rows) (sees : Sees now ixl given machine) (key : Key) (outbox : OutboxState) where
  until : (input : Input) → FarEnds now input ixl given machine → Leads now input (machine_table rows) ixl given machine (until_ticked now rows key input ixl outbox)
  until input far = steps_so now input rows ixl given machine far chain_signal chain_point onward acts receipt at_first counted sees key outbox

  behind_so : (input : Input) (part : StepSoFar) → Leads now input (machine_table rows) ixl given machine part → LeadsBehind now input (machine_table rows) ixl given machine part
  behind_so input part leads = (leads.0, during_is_behind now input (machine_table rows) ixl given machine part leads.0 leads.1)

  pub steps_lead : (input : Input) → FarEnds now input ixl given machine → LeadsBehind now input (machine_table rows) ixl given machine (stepped now rows key input (begun_with ixl outbox))
  unfolding stepped ticked
  steps_lead Tick far = ticks_lead now (machine_table rows) ixl given machine far chain_signal chain_point onward (until_ticked now rows key Tick ixl outbox) (until Tick far)
  steps_lead (Datagram bytes) far = behind_so (Datagram bytes) (until_ticked now rows key (Datagram bytes) ixl outbox) (until (Datagram bytes) far)
  steps_lead (Commands command) far = behind_so (Commands command) (until_ticked now rows key (Commands command) ixl outbox) (until (Commands command) far)

  pub steps_sees : (input : Input) → FarEnds now input ixl given machine →
      (new : Machine) × IsStepped now input (machine_table rows) ixl given machine (stepped now rows key input (begun_with ixl outbox)) new
  steps_sees input far =
      let led = steps_lead input far
      in (led.0, record { behind = led.1; sees = sees_behind now input (machine_table rows) ixl given machine (stepped now rows key input (begun_with ixl outbox)) led.0 sees led.1 })
