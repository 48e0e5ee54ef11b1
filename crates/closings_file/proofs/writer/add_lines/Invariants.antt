use Rattle.std.proofs.Common.{◌≡◌, ◌++◌, drop}
use Rattle.std.specs.Prelude.{string_bytes}
use Rattle.closings_file.specs.Texts.{lines_of}
use Rattle.closings_file.proofs.writer.add_lines.Given as goal

-- with the lines that are left it is the same as with all
abbrev pub invariant-loop-thing : goal.invariant-loop-thing
invariant-loop-thing l = string_bytes l.text ++ lines_of l.layout (drop l.thing-index l.things) ≡ string_bytes l.initial.text ++ lines_of l.layout l.things
