use Rattle.std.proofs.Common.{sym, ◌<◌, length, arith}
use Rattle.closings_file.proofs.Bytes.{some_behind}
use Rattle.std.proofs.lemmas.Bool.Decides.{nat_tests}
use Rattle.closings_file.proofs.reader.ended.Goals as goal

pub returns-else-is_empty : goal.returns-else-is_empty
returns-else-is_empty c =
    let some : 0 < length c.args.behind.now = grind (arith, nat_tests, c.is_empty.ensures, c.if-is_empty.false) in
    sym (some_behind c.args.closings c.args.behind.now some)
