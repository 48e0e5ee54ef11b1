use Rattle.simulator_recovery.proofs.below.laws_of_interlockings.Goals as goal

pub returns : goal.returns
returns c = record {
  move_is_given_where_due = c.move_is_given_where_due.ensures;
  client_step_is_calls_command = c.step_is_calls.ensures.command;
  request_is_accepted_where_admissible = c.request_is_accepted_where_admissible.ensures.accepted;
  stop_is_given_where_due = c.stop_is_given_where_due.ensures;
  proceed_is_given_where_due = c.proceed_is_given_where_due.ensures;
  route_is_freed_where_cancel_lets_it_go = c.route_is_freed_where_cancel_lets_it_go.ensures;
  client_step_is_calls_receipt = c.step_is_calls.ensures.receipt;
  client_step_is_calls_tick = c.step_is_calls.ensures.tick;
  step_hears_what_was_taken = c.step_hears_what_was_taken.ensures;
  written_telegram_is_read = c.written_is_read.ensures.read;
}
