use Rattle.std.proofs.Common.{None, Some}
use Rattle.run_files.proofs.Ends.{last_tells}
use Rattle.run_files.proofs.line_ends.ends_line.Goals as goal

pub returns-in-Some : goal.returns-in-Some
returns-in-Some c = last_tells c.args.bytes.now (Some c.in-Some.byte.now) c.in-Some.ensures.value

pub returns-in-None : goal.returns-in-None
returns-in-None c = last_tells c.args.bytes.now None c.in-None.ensures.value
