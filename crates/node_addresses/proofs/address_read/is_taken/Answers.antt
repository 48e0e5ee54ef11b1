use Rattle.node_addresses.proofs.Among.{among_either}
use Rattle.node_addresses.proofs.address_read.is_taken.Goals as goal

pub returns-else-is_among : goal.returns-else-is_among
returns-else-is_among c =
    among_either c.args.others.now c.args.before.now c.args.address.now c.is_among.result c.is_among-else-is_among.result c.is_among.ensures c.if-is_among.false c.is_among-else-is_among.ensures
