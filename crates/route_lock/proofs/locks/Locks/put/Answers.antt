use Rattle.std.proofs.Common.{◌≡◌, sym, ap, ◌∙◌, subst, rules}
use Rattle.control_table.specs.bit_row.Places.{Has}
use Rattle.control_table.specs.Table.{LeadsOver}
use Rattle.route_lock.specs.Locks.{AllApart, LockState, locking}
use Rattle.route_lock.proofs.KeptLaws.{kept-set, state-set}
use Rattle.route_lock.proofs.locks.Locks.put.Goals as goal

pub rows_of-rows-requires-clause-its : goal.rows_of-rows-requires-clause-its
rows_of-rows-requires-clause-its c = λ s h. subst (λ (st : LockState). LeadsOver st.table c.args.route (record { 0 = s })) (sym c.self.view_is) (c.requires.its s h)

pub invariant_of-self : goal.invariant_of-self
invariant_of-self c =
    kept-set c.self.inside.table c.self.inside.locks.items c.self.inside.all c.args.route c.rows_of-rows.result c.args.sections c.all_of-self-inside.result c.self.invariant c.rows_of-rows.ensures.rows c.rows_of-rows.ensures.sections (search rules)
    (subst (λ (st : LockState). AllApart (locking st c.args.route c.args.sections)) (sym c.self.view_is) c.requires.apart)

pub returns : goal.returns
returns c =
    state-set c.self.inside.table c.self.inside.locks.items c.args.route c.rows_of-rows.result c.args.sections c.rows_of-rows.ensures.sections ∙ ap (λ (st : LockState). locking st c.args.route c.args.sections) c.self.view_is
