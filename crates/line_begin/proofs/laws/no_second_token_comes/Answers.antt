use Rattle.line_begin.proofs.Events.{no_second}
use Rattle.line_begin.proofs.laws.no_second_token_comes.Goals as goal

pub returns : goal.returns
returns c = λ name first second events before. no_second name first second c.what_is_found_was_kept.ensures c.written_is_read.ensures events before
