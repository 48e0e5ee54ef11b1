-- What the interlocking does in a step: its clients, and its rules.
use Rattle.std.specs.Prelude.{List, None, Ok, ℕ, ◌↔◌, ◌≡◌}
use Rattle.simulator_spec.specs.ixl_client.ClientSoFar.{ClientSoFar}
use Rattle.simulator_spec.specs.ixl_client.Made.{ActsOn, MakesAfterReceipt, MakesOwn}
use Rattle.simulator_spec.specs.ixl_client.Step.{commanding, hearing, ticking}
use Rattle.simulator_spec.specs.ixl_client.declared.command.Command.{Command}
use Rattle.simulator_spec.specs.ixl_spec.Commands.{refusal}
use Rattle.simulator_spec.specs.ixl_spec.Due.{Admissible, DoesWhere, FreeByCancel, IsRouteOf, MoveDue, ProceedDue, StopDue}
use Rattle.simulator_spec.specs.ixl_spec.Rules.{authorised, come_to, freed, freeing_by_cancel, moving_one, proceeding, stopped, withdrawing}
use Rattle.simulator_spec.specs.ixl_spec.State.{IxlState, RouteState}
use Rattle.simulator_spec.specs.ixl_spec.StepSoFar.{StepSoFar, giving_aspect, giving_move, with_route}
use Rattle.simulator_spec.specs.ixl_spec.Table.{Need, Row, Table}
use Rattle.simulator_spec.specs.ixl_spec.declared.command.Command.TheVariants as commands
use Rattle.simulator_spec.specs.ixl_spec.declared.phase.Phase.TheVariants as phase
use Rattle.simulator_spec.specs.layout.declared.ids.RouteId.{RouteId}
use Rattle.simulator_spec.specs.sci_telegram.TelegramRead.{reading}
use Rattle.simulator_spec.specs.sci_telegram.Telegrams.{IsTelegram, writing}
use Rattle.simulator_spec.specs.sci_telegram.declared.telegram.Telegram.{Telegram}

abbrev pub MoveLaw : Type 0
MoveLaw = (now : ℕ) (table : Table) (number : ℕ) (need : Need) (part : StepSoFar) (row : Row) (route : RouteState) → IsRouteOf table part.ixl number row route
    → DoesWhere (MoveDue table part.ixl number route need) part (giving_move now need.point need.side part) (moving_one now table number need part)

abbrev pub RequestLaw : Type 0
RequestLaw = (now : ℕ) (table : Table) (ixl : IxlState) (route : RouteId) → refusal now table (commands.Request route) ixl ≡ None ↔ Admissible now table ixl route.0

abbrev pub StopLaw : Type 0
StopLaw = (now : ℕ) (table : Table) (number : ℕ) (part : StepSoFar) (row : Row) (route : RouteState) → IsRouteOf table part.ixl number row route
    → DoesWhere (StopDue table part.ixl row route) part (stopped now row (with_route number (come_to phase.Withdrawn) part)) (withdrawing now table number part)

abbrev pub ProceedLaw : Type 0
ProceedLaw = (now : ℕ) (table : Table) (number : ℕ) (part : StepSoFar) (row : Row) (route : RouteState) → IsRouteOf table part.ixl number row route
    → DoesWhere (ProceedDue now table part.ixl row route) part (giving_aspect now row.entry row.aspect (with_route number (authorised table part.ixl row) part)) (proceeding now table number part)

abbrev pub FreeLaw : Type 0
FreeLaw = (now : ℕ) (table : Table) (number : ℕ) (part : StepSoFar) (row : Row) (route : RouteState) → IsRouteOf table part.ixl number row route
    → DoesWhere (FreeByCancel now table part.ixl row route) part (with_route number freed part) (freeing_by_cancel now table number part)

abbrev pub WrittenIsRead : Type 0
WrittenIsRead = (telegram : Telegram) → IsTelegram telegram → reading (writing telegram) ≡ Ok telegram

pub record LawsOfInterlockings : Type 0 where
  pub move_is_given_where_due : MoveLaw
  pub client_step_is_calls_command : (now : ℕ) (command : Command) (part : ClientSoFar) → MakesOwn now part (commanding now command part)
  pub request_is_accepted_where_admissible : RequestLaw
  pub stop_is_given_where_due : StopLaw
  pub proceed_is_given_where_due : ProceedLaw
  pub route_is_freed_where_cancel_lets_it_go : FreeLaw
  pub client_step_is_calls_receipt : (now : ℕ) (bytes : List ℕ) (part : ClientSoFar) → MakesAfterReceipt now bytes part (hearing now bytes part)
  pub client_step_is_calls_tick : (now : ℕ) (part : ClientSoFar) → MakesOwn now part (ticking now part)
  pub step_hears_what_was_taken : (now : ℕ) (bytes : List ℕ) (part : ClientSoFar) → ActsOn now bytes part (hearing now bytes part)
  pub written_telegram_is_read : WrittenIsRead
