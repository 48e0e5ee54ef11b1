use Rattle.simulator_move_laws.proofs.Interlocking.Anew.{is_made_anew}
use Rattle.simulator_move_laws.proofs.interlockings.restarts_are_moves.Goals as goal

pub returns : goal.returns
returns c now later table old anew given anew_given machine sees made created clock same = is_made_anew now later table old anew given anew_given machine sees made created clock same
