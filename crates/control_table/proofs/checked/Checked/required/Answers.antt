use Rattle.std.proofs.Common.{sym, ap, ◌∙◌, subst}
use Rattle.control_table.specs.Table.{AreRequired}
use Rattle.control_table.specs.inside.TableTests.{TableRow}
use Rattle.control_table.proofs.Joints.{one-beyond}
use Rattle.control_table.proofs.ConflictLaws.{get-below, row-facts, required-are}
use Rattle.control_table.proofs.checked.Checked.required.Goals as goal

pub returns : goal.returns
returns c =
    let l = c.args.self.now in
    let row = c.row_at.result.now in
    let found = get-below l.routes c.args.route.0 c.requires in
    let one = one-beyond l c.row_at.ensures.once in
    let facts = row-facts l one c.args.route found.0 row found.1 c.row_at.ensures.row in
    subst (AreRequired c.args.self.now c.args.route) (sym (c.deref.ensures.value ∙ ap (λ (x : TableRow). x.required) c.behind-self.view_is)) (required-are l one c.args.route found.0 row found.1 facts)
