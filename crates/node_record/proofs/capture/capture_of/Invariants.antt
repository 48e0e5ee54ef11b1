use Rattle.std.proofs.Common.{drop}
use Rattle.node_record.specs.NodeEnds.{ends_of}
use Rattle.node_record.proofs.Captures.{Captures}
use Rattle.node_record.proofs.capture.capture_of.Given as goal

abbrev pub invariant-loop-one : goal.invariant-loop-one
invariant-loop-one l = Captures (ends_of l.given) l.node l.one-items (drop l.one-index l.one-items) l.file.items
