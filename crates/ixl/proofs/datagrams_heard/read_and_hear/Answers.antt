use Rattle.ixl.proofs.InputEffects.{fault_given, pdu_given}
use Rattle.ixl.proofs.datagrams_heard.read_and_hear.Goals as goal

pub returns-in-Ok-clause-goes : goal.returns-in-Ok-clause-goes
returns-in-Ok-clause-goes c = pdu_given c.args.now c.args.state.now.sited.table c.args.key.now c.args.datagram.now c.in-Ok.pdu c.args.state.now c.args.outbox.now c.hear_from.new.self c.hear_from.new.outbox c.in-Ok.ensures.value c.hear_from.ensures.goes

pub returns-in-Err-clause-goes : goal.returns-in-Err-clause-goes
returns-in-Err-clause-goes c = fault_given c.args.now c.args.state.now.sited.table c.args.key.now c.args.datagram.now c.in-Err.fault c.args.state.now c.args.outbox.now c.requires.clock c.in-Err.ensures.value
