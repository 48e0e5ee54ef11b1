use Rattle.sci_telegram.proofs.Codec.{read_takes}
use Rattle.sci_telegram.proofs.laws.read_was_written.Goals as goal

pub returns : goal.returns
returns c = read_takes
