use Rattle.closings_file.proofs.Reading.{unnamed}
use Rattle.closings_file.proofs.reader.named_by.Goals as goal

pub returns-in-Err-clause-value : goal.returns-in-Err-clause-value
returns-in-Err-clause-value c =
    let l = c.args.layout.now in
    unnamed l c.args.words.now (λ n is. c.words_say_what_is_there.ensures l n c.args.words.now is)
    (λ n there. c.words_are_read_again.ensures.plain l n c.joints.ensures.station there) c.in-Err.ensures.cases.0
