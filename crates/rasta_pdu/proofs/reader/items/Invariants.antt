use Rattle.std.proofs.Common.{◌-◌, length}
use Rattle.rasta_pdu.proofs.ItemLoop.{ReadsOn}
use Rattle.rasta_pdu.proofs.reader.items.Given as goal

abbrev pub invariant-loop-rest : goal.invariant-loop-rest
invariant-loop-rest l = ReadsOn l.held.items l.rest l.payload

abbrev pub decreases-loop-rest : goal.decreases-loop-rest
decreases-loop-rest l = 3 - length l.held.items
