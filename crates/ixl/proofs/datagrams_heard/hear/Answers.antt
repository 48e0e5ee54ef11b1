use Rattle.ixl.proofs.Judged.{judged_goes, judged_told}
use Rattle.ixl.proofs.datagrams_heard.hear.Goals as goal

pub returns-in-Some-clause-goes : goal.returns-in-Some-clause-goes
returns-in-Some-clause-goes c = judged_goes c.args.now c.args.key.now c.args.datagram.now c.in-Some.node c.args.state.now c.the_sender_is_told.ensures c.requires.clocked c.requires.under c.keeps_its_key.ensures c.in-Some.ensures
    c.args.outbox.now c.hear_at.new.self c.hear_at.new.outbox c.hear_at.ensures.goes

pub returns-in-Some-clause-verdict : goal.returns-in-Some-clause-verdict
returns-in-Some-clause-verdict c = judged_told c.args.now c.args.key.now c.args.datagram.now c.in-Some.node c.args.state.now c.the_sender_is_told.ensures c.requires.clocked c.requires.under c.keeps_its_key.ensures c.in-Some.ensures
    c.hear_at.result c.hear_at.ensures.verdict
