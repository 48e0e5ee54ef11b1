use Rattle.line_begin.proofs.Events.{second_kept}
use Rattle.line_begin.proofs.laws.kept_second_file_has_no_token.Goals as goal

pub returns : goal.returns
returns c = λ name first second events later kept. second_kept name first second c.what_is_found_was_kept.ensures c.written_is_read.ensures events later kept
