use Rattle.ixl_laws.proofs.RefusedInputs.{lost_datagram_is_without, refused_command_is_without}
use Rattle.ixl_laws.proofs.Unheard.{refused_datagram_is_without}
use Rattle.ixl_laws.proofs.laws.refused_inputs_change_nothing.Goals as goal

pub returns-clause-command : goal.returns-clause-command
returns-clause-command c now command old new cause stepped = refused_command_is_without now command old new cause stepped

pub returns-clause-datagram : goal.returns-clause-datagram
returns-clause-datagram c now bytes old new answer stepped lost = lost_datagram_is_without now bytes old new answer stepped lost

pub returns-clause-link : goal.returns-clause-link
returns-clause-link c now bytes old new why client stepped is may refusal shut = refused_datagram_is_without now bytes old new why client stepped is may refusal shut
