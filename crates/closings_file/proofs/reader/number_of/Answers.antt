use Rattle.closings_file.proofs.Numbers.{no_number}
use Rattle.closings_file.proofs.reader.number_of.Goals as goal

pub returns-in-Err : goal.returns-in-Err
returns-in-Err c = no_number c.args.digits.now c.in-Err.ensures.cases.0
