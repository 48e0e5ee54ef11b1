-- A step up to its rules, from the clock on.
use Rattle.std.proofs.Common.{◌≡◌, ℕ, List}
use Rattle.std.specs.Prelude.{length}
use Rattle.ixl_spec.specs.rasta_pdu.declared.key.Key.{Key}
use Rattle.ixl_spec.specs.ixl_client.Made.{ActsOn, MakesAfterReceipt}
use Rattle.ixl_spec.specs.ixl_client.ClientSoFar as client
use Rattle.ixl_spec.specs.ixl_client.ClientSoFar.{LinkCall}
use Rattle.ixl_spec.specs.ixl_client.Step.{hearing}
use Rattle.ixl_spec.specs.StepSoFar.{StepSoFar}
use Rattle.ixl_spec.specs.State.{IxlState}
use Rattle.ixl_spec.specs.Step.{Input, given as given_input}
use Rattle.ixl_spec.specs.Table.{Table as Rows}
use Rattle.simulator_machine.specs.Machine.{Machine, with_point, with_signal}
use Rattle.simulator_machine.specs.Point.{PointMove}
use Rattle.simulator_machine.specs.Signal.{SignalMove}
use Rattle.simulator_machine.specs.Chains.{MovesTo, PointMayChain, SignalMayChain, point_chained, signal_chained}
use Rattle.simulator_move_laws.specs.MachineSoFar.{Leads}
use Rattle.simulator_move_laws.specs.Facts.{FarEnds}
use Rattle.simulator_move_laws.specs.Rows.{AreHeldAtFirst, machine_table}
use Rattle.simulator_move_laws.specs.Sees.{Given}
use Rattle.ixl_spec.specs.rasta_core.Outbox.{OutboxState}
use Rattle.ixl_spec.specs.StepSoFar.{begun_with, over}
use Rattle.ixl_spec.specs.Rules.{count}
use Rattle.ixl_spec.specs.Step.{all_clocked, watching}
use Rattle.simulator_move_laws.specs.MachineSoFar.{until_ticked}
use Rattle.simulator_move_laws.specs.Sees.{Sees}
use Rattle.simulator_move_laws.proofs.Interlocking.Given.{inputs_kept}
use Rattle.simulator_move_laws.proofs.Interlocking.RulesKept.{rules_kept}
use Rattle.simulator_move_laws.proofs.Interlocking.Start.{begins_so}
use Rattle.simulator_move_laws.proofs.Interlocking.UnseenWatches.{all_watch}

module _ (now : ℕ) (input : Input) (rows : Rows) (ixl : IxlState) (given : Given) (machine : Machine) (far : FarEnds now input ixl given machine)
    (chain_signal : (machine : Machine) (place : ℕ) (moves : List SignalMove) → SignalMayChain moves (machine.signals place)
    → MovesTo (machine_table rows) machine (with_signal place (signal_chained moves (machine.signals place)) machine))
    (chain_point : (machine : Machine) (place : ℕ) (moves : List PointMove) → PointMayChain moves (machine.points place)
    → MovesTo (machine_table rows) machine (with_point place (point_chained moves (machine.points place)) machine))
    (onward : (old between new : Machine) → MovesTo (machine_table rows) old between → MovesTo (machine_table rows) between new → MovesTo (machine_table rows) old new)
    (acts : (now : ℕ) (bytes : List ℕ) (part : client.ClientSoFar) → ActsOn now bytes part (hearing now bytes part))
    (receipt : (now : ℕ) (bytes : List ℕ) (part : client.ClientSoFar) → MakesAfterReceipt now bytes part (hearing now bytes part))
    (at_first : AreHeldAtFirst rows) (counted : length ixl.routes ≡ length rows.rows) where
  pub steps_so : Sees now ixl given machine → (key : Key) (outbox : OutboxState) → Leads now input (machine_table rows) ixl given machine (until_ticked now rows key input ixl outbox)
  steps_so sees key outbox =
      let begun : StepSoFar = begun_with (all_clocked now ixl) outbox
      in let heard : StepSoFar = given_input now rows key input begun
      in rules_kept now input rows ixl given machine far chain_signal chain_point onward acts receipt at_first (over (watching rows) (count rows) heard)
      (all_watch now input (machine_table rows) rows ixl given machine onward heard
      (inputs_kept now input rows ixl given machine far chain_signal chain_point onward acts receipt at_first counted key begun (begins_so now input (machine_table rows) ixl given machine sees outbox)))
