use Rattle.std.proofs.Common.{◌≡◌, drop}
use Rattle.line_file.specs.EndFiles.{kept_in}
use Rattle.line_file.proofs.reader.kept_in.Given as goal

-- what is left says the same as all
abbrev pub invariant-loop-kept : goal.invariant-loop-kept
invariant-loop-kept l = kept_in (drop l.kept-index l.files) l.rest ≡ kept_in l.files l.rest
