use Rattle.std.proofs.Common.{◌≡◌, ◌++◌, take}
use Rattle.std.specs.List.{flat_map}
use Rattle.drawing.specs.Escaped.{escaped_byte}
use Rattle.drawing.proofs.escaped.push_escaped.Given as goal

abbrev pub invariant-loop-byte : goal.invariant-loop-byte
invariant-loop-byte l = l.svg.items ≡ l.fn.svg.items ++ flat_map escaped_byte (take l.byte-index l.text)
