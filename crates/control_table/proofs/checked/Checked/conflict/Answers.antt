use Rattle.control_table.proofs.MaskLaws.{conflict-is}
use Rattle.control_table.proofs.checked.Checked.conflict.Goals as goal

pub returns : goal.returns
returns c =
    conflict-is c.args.self.now c.args.a c.args.b c.masks.result c.masks-2.result c.conflicts.result c.requires.first c.requires.second c.masks.ensures c.masks-2.ensures c.conflicts.ensures
