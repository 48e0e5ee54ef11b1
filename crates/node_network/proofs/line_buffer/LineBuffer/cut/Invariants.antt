use Rattle.std.proofs.Common.{◌≡◌, length}
use Rattle.node_network.specs.Lines.{cut}
use Rattle.node_network.proofs.line_buffer.LineBuffer.cut.Given as goal

-- what is left is cut as all of it
abbrev pub invariant-loop-byte : goal.invariant-loop-byte
invariant-loop-byte l = cut l.self.begun l.self.behind ≡ cut l.fn.self.begun l.fn.self.behind

abbrev pub decreases-loop-byte : goal.decreases-loop-byte
decreases-loop-byte l = length l.self.behind
