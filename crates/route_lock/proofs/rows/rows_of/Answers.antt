use Rattle.std.proofs.Common.{◌≡◌, List, subst, sym, ap, ◌∙◌, refl}
use Rattle.std.specs.FinSet.{insert}
use Rattle.control_table.specs.layout.Station.{IsRouteOf}
use Rattle.std.proofs.lemmas.List.Elements.{All-contains}
use Rattle.route_lock.specs.Rows.{AreRows}
use Rattle.route_lock.proofs.LockLaws.{rows-of-none, rows-made, entry-below}
use Rattle.route_lock.proofs.rows.rows_of.Goals as goal

pub returns-then-is_empty-clause-rows : goal.returns-then-is_empty-clause-rows
returns-then-is_empty-clause-rows c = subst (AreRows c.args.table.now c.args.route) (sym c.none.ensures) (rows-of-none c.args.table.now c.args.route)

pub with-requires-2 : goal.with-requires-2
with-requires-2 c = entry-below c.args.table.now c.facts_of.ensures.station c.args.route c.masks.result c.requires.there c.masks.ensures

pub returns-clause-rows : goal.returns-clause-rows
returns-clause-rows c =
    rows-made c.args.table.now c.args.route c.masks.result c.args.sections c.with.result c.with-2.result c.held.result c.held-2.result c.requires.there c.masks.ensures c.if-is_empty.ensures c.requires.its
    (c.with.ensures ∙ ap (λ s. insert s c.args.route.0) c.empty.ensures) (c.with-2.ensures ∙ ap (λ s. insert s c.masks.result.entry.0) c.empty-2.ensures) c.held.ensures c.held-2.ensures
