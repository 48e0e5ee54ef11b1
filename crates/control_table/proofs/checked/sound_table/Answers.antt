use Rattle.std.proofs.Common.{List, subst, sym, ap, ◌∙◌, length}
use Rattle.layout.specs.Entries.{RouteEntry}
use Rattle.control_table.specs.inside.TableTests.{AreWithin, TableRow}
use Rattle.control_table.proofs.Joints.{one-beyond}
use Rattle.control_table.proofs.ConflictLaws.{table-length}
use Rattle.control_table.proofs.MaskLaws.{station-within}
use Rattle.control_table.proofs.checked.sound_table.Goals as goal

pub all_masks-requires-clause-each : goal.all_masks-requires-clause-each
all_masks-requires-clause-each c = ap length c.deref.ensures.value ∙ table-length c.args.layout c.args.rows.items c.requires.rows ∙ sym (ap length c.routes.ensures)

pub all_masks-requires-clause-within : goal.all_masks-requires-clause-within
all_masks-requires-clause-within c =
    let one = one-beyond c.args.layout c.requires.once in
    let are = station-within c.args.layout c.requires.station one c.args.rows.items c.requires.rows in
    subst (λ (rs : List RouteEntry). AreWithin rs c.deref.result.now) (sym c.routes.ensures) (subst (λ (ws : List TableRow). AreWithin c.args.layout.routes ws) (sym c.deref.ensures.value) are)
