use Rattle.simulator_recovery.proofs.below.laws_of_rounds.Goals as goal

pub returns : goal.returns
returns c = record {
  two_ends_at_work_come_up = c.two_ends_at_work_come_up.ensures;
  two_ends_at_work_confirm = c.two_ends_at_work_confirm.ensures;
  what_was_given_before_is_confirmed = c.what_was_given_before_is_confirmed.ensures;
  two_ends_at_work_hand_over = c.two_ends_at_work_hand_over.ensures;
  what_servers_take_at_work_confirms = c.what_servers_take_at_work_confirms.ensures;
  servers_at_work_speak = c.servers_at_work_speak.ensures;
  servers_at_work_confirm = c.servers_at_work_confirm.ensures;
  clients_at_work_speak = c.clients_at_work_speak.ensures;
  quiet_clients_confirm_at_once_still = c.quiet_clients_confirm_at_once.ensures.still;
  quiet_clients_confirm_at_once_all = c.quiet_clients_confirm_at_once.ensures.all;
  what_is_taken_confirms_kept = c.what_is_taken_confirms.ensures.kept;
  what_is_taken_confirms_left = c.what_is_taken_confirms.ensures.left;
  what_is_taken_confirms_few = c.what_is_taken_confirms.ensures.few;
  what_a_server_takes_confirms_kept = c.what_a_server_takes_confirms.ensures.kept;
  what_a_server_takes_confirms_left = c.what_a_server_takes_confirms.ensures.left;
  what_a_server_takes_confirms_ever = c.what_a_server_takes_confirms.ensures.ever;
}
