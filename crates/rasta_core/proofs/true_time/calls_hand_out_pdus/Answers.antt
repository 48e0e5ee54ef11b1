use Rattle.rasta_core.proofs.HandedOut.{handed_out_are}
use Rattle.rasta_core.proofs.true_time.calls_hand_out_pdus.Goals as goal

pub returns : goal.returns
returns c = λ names ends who call timely may. handed_out_are names ends who timely c.read_was_written.ensures.intact call may
