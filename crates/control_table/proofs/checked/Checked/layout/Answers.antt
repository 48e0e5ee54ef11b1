use Rattle.std.proofs.Common.{subst}
use Rattle.control_table.specs.Table.{Sound}
use Rattle.control_table.proofs.Joints.{one-beyond}
use Rattle.control_table.proofs.TableLaws.{table-sound}
use Rattle.control_table.proofs.checked.Checked.layout.Goals as goal

pub returns-clause-sound : goal.returns-clause-sound
returns-clause-sound c = subst Sound c.self.view_is (table-sound c.self.inside.layout (one-beyond c.self.inside.layout c.self.invariant.0.0) c.self.inside.rows.items c.self.invariant.1)
