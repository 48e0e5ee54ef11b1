use Rattle.std.proofs.Common.{drop}
use Rattle.node_record.proofs.Traffic.{Writes}
use Rattle.node_record.proofs.decode.write_traffic.Given as goal

abbrev pub invariant-loop-one : goal.invariant-loop-one
invariant-loop-one g l = Writes l.layout l.node l.one-items (drop l.one-index l.one-items) (g.W.Write.contents l.fn.out) (g.W.Write.contents l.out)
