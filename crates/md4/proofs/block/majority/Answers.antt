use Rattle.std.proofs.Common.{arith}
use Rattle.md4.proofs.Bits.{majority_by_sum}
use Rattle.md4.proofs.block.majority.Goals as goal

pub returns : goal.returns
returns c = majority_by_sum c.args.x c.args.y c.args.z (omega arith) (omega arith) (omega arith)
