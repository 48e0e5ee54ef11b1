use Rattle.whole_file.proofs.Sound.{leaves_on_disk}
use Rattle.whole_file.proofs.laws.what_leaves_is_on_disk.Goals as goal

pub returns : goal.returns
returns c = leaves_on_disk
