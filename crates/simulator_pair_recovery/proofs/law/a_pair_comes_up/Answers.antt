use Rattle.simulator_pair_recovery.proofs.Recovers.{recovers}
use Rattle.simulator_pair_recovery.proofs.law.a_pair_comes_up.Goals as goal

pub returns : goal.returns
returns c = recovers
    (record { starts = c.starts_in_time.ensures; time = c.every_run_keeps_time.ensures; copies = c.copies_are_delivered.ensures; intact = c.intact_is_tested.ensures })
    c.calls_hand_out_pdus.ensures c.written_is_read.ensures.most c.read_was_written.ensures.intact c.two_ends_come_up_whatever_comes_first.ensures
