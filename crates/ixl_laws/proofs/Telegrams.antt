-- An aspect and a move that are given are telegrams to the controller.
use Rattle.std.proofs.Common.{◌≡◌, ℕ, List, ◌++◌, ap}
use Rattle.std.specs.Prelude.{map, Some, slice_get}
use Rattle.ixl_state.specs.sci_telegram.declared.message.Aspect.{Aspect}
use Rattle.ixl_state.specs.sci_telegram.declared.message.Side.{Side}
use Rattle.ixl_state.specs.ixl_client.ClientSoFar.{ClientSoFar, LinkCall, begun}
use Rattle.ixl_state.specs.ixl_client.LinkClosed.{telegram_of}
use Rattle.ixl_state.specs.ixl_client.ItemsSaid.{SaysCommand}
use Rattle.ixl_state.specs.ixl_client.Step.{commanding}
use Rattle.ixl_state.specs.ixl_client.declared.command.Command.{Command}
use Rattle.ixl_state.specs.ixl_client.declared.command.Command.TheVariants as commands
use Rattle.ixl_state.specs.ixl_spec.State.{KnownPointState, KnownSignalState}
use Rattle.ixl_state.specs.ixl_spec.StepSoFar.{Point, Signal, StepSoFar, giving_aspect, giving_move}
use Rattle.ixl_laws.specs.GivenOnce.{GivesTelegram, telegram_for}

module _ (now : ℕ) (says : (command : Command) (part : ClientSoFar) → SaysCommand (telegram_of command part) part (commanding now command part)) where
  pub aspect_is_sent : (signal : ℕ) (aspect : Aspect) (part : StepSoFar) (known_signal : KnownSignalState) → slice_get part.ixl.known_signals signal ≡ Some known_signal →
      GivesTelegram (Signal signal) (telegram_for known_signal.client (commands.Indicate aspect)) part (giving_aspect now signal aspect part)
  unfolding giving_aspect
  aspect_is_sent signal aspect part known_signal there =
      let said = says (commands.Indicate aspect) (begun known_signal.client part.outbox)
      in rw there (record { calls = said.calls; made = ap (λ (list : List LinkCall). part.calls ++ map (λ call. (Signal signal, call)) list) said.made; sent = said.sent })

  pub move_is_sent : (point : ℕ) (side : Side) (part : StepSoFar) (known_point : KnownPointState) → slice_get part.ixl.known_points point ≡ Some known_point →
      GivesTelegram (Point point) (telegram_for known_point.client (commands.Move side)) part (giving_move now point side part)
  unfolding giving_move
  move_is_sent point side part known_point there =
      let said = says (commands.Move side) (begun known_point.client part.outbox)
      in rw there (record { calls = said.calls; made = ap (λ (list : List LinkCall). part.calls ++ map (λ call. (Point point, call)) list) said.made; sent = said.sent })
