use Rattle.std.proofs.Common.{◌≡◌, length}
use Rattle.std.specs.List.{slice_split}
use Rattle.closings.specs.Closed.{nothing}
use Rattle.closings_file.specs.Texts.{ends_line, lines_read}
use Rattle.closings_file.proofs.reader.lines_read.Given as goal

-- what is left closes the same as all
abbrev pub invariant-loop-line : goal.invariant-loop-line
invariant-loop-line l = lines_read l.layout (slice_split ends_line l.rest) l.closings ≡ lines_read l.layout (slice_split ends_line l.text) nothing

abbrev pub decreases-loop-line : goal.decreases-loop-line
decreases-loop-line l = length l.rest
