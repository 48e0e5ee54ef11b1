use Rattle.whole_file.proofs.Sound.{found_was_kept}
use Rattle.whole_file.proofs.laws.what_is_found_was_kept.Goals as goal

pub returns : goal.returns
returns c = found_was_kept
