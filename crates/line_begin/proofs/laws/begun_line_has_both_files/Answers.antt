use Rattle.line_begin.proofs.Events.{has_both}
use Rattle.line_begin.proofs.laws.begun_line_has_both_files.Goals as goal

pub returns : goal.returns
returns c = λ name first second events is. has_both name first second c.what_is_found_was_kept.ensures events is
