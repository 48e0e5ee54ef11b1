use Rattle.std.proofs.Common.{arith}
use Rattle.rasta_pdu.proofs.writer.fields_of.Goals as goal

pub returns-clause-fits : goal.returns-clause-fits
returns-clause-fits c = λ body. record {
  receiver = omega arith;
  sender = omega arith;
  sequence_number = omega arith;
  confirmed_sequence_number = omega arith;
  time_stamp = omega arith;
  confirmed_time_stamp = omega arith;
  body = body;
}
