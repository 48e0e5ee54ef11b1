use Rattle.std.proofs.Common.{arith}
use Rattle.draw_desk.proofs.Shallow.{read_shallow}
use Rattle.draw_desk.proofs.json.layout_text.Goals as goal

pub returns : goal.returns
returns c = read_shallow _ _ _ c.in_ok-text.ensures.reads_back c.in_ok-value.ensures (omega arith)
