use Rattle.std.proofs.Common.{Some, None}
use Rattle.node_record.proofs.FirstWord.{split_is}
use Rattle.node_record.proofs.course.parted.Goals as goal

-- the first word that `split_once` finds, or else the whole line
pub returns-in-Some : goal.returns-in-Some
returns-in-Some c = split_is c.args.line.now (Some (c.in-Some.kind, c.in-Some.text)) c.in-Some.ensures.cases

pub returns-in-None : goal.returns-in-None
returns-in-None c = split_is c.args.line.now None c.in-None.ensures.cases
