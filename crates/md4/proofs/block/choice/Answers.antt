use Rattle.std.proofs.Common.{arith}
use Rattle.md4.proofs.Bits.{choice_by_xor}
use Rattle.md4.proofs.block.choice.Goals as goal

pub returns : goal.returns
returns c = choice_by_xor c.args.x c.args.y c.args.z (omega arith) (omega arith) (omega arith)
