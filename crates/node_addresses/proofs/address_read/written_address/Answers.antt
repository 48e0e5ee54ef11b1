use Rattle.std.proofs.Common.{arith}
use Rattle.node_addresses.proofs.Refuted.{not_written}
use Rattle.node_addresses.proofs.address_read.written_address.Goals as goal

pub returns-in_default-clause-none : goal.returns-in_default-clause-none
returns-in_default-clause-none c address writes =
    not_written c.args.text.now c.in-Ok.address address c.in-Ok.ensures.value (omega (arith, c.port.ensures, c.if-port-ne0.false)) writes
