use Rattle.line_host.proofs.Sites.{left_on_disk}
use Rattle.line_host.proofs.laws.what_left_was_on_disk.Goals as goal

pub returns : goal.returns
returns c = left_on_disk
