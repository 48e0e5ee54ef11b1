use Rattle.std.proofs.Common.{ap, ◌∙◌}
use Rattle.line_telegram.specs.LineMessages.{reading}
use Rattle.line_telegram.proofs.Reading.{found_spelled, read_again}
use Rattle.line_telegram.proofs.reader.read.Goals as goal

pub returns-clause-found : goal.returns-clause-found
returns-clause-found c = found_spelled c.args.sender.now c.args.receiver.now c.args.bytes.now c.read_value.result c.read_value.ensures

pub returns-clause-only : goal.returns-clause-only
returns-clause-only c = λ message sender receiver same.
    c.read_value.ensures ∙ (ap (reading c.args.sender.now c.args.receiver.now) same ∙ read_again c.args.sender.now c.args.receiver.now message sender receiver)
