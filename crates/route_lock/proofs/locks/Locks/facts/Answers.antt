use Rattle.std.proofs.Common.{◌≡◌, ℕ, subst}
use Rattle.control_table.specs.layout.declared.ids.RouteId.{RouteId}
use Rattle.control_table.specs.bit_row.Places.{Has}
use Rattle.control_table.specs.Table.{LeadsOver}
use Rattle.route_lock.specs.Locks.{AllApart, LockState, locked_by}
use Rattle.route_lock.proofs.KeptLaws.{each-is, its-are}
use Rattle.route_lock.proofs.locks.Locks.facts.Goals as goal

pub returns-clause-each : goal.returns-clause-each
returns-clause-each c = each-is c.self.inside.table c.self.inside.locks.items c.args.self.now c.self.view_is c.self.invariant.each

pub returns-clause-apart : goal.returns-clause-apart
returns-clause-apart c = subst AllApart c.self.view_is c.self.invariant.apart

pub returns-clause-its : goal.returns-clause-its
returns-clause-its c =
    subst (λ (st : LockState). (a : RouteId) (s : ℕ) → Has (locked_by st a) s → LeadsOver st.table a (record { 0 = s })) c.self.view_is (its-are c.self.inside.table c.self.inside.locks.items c.self.inside.all c.self.invariant)
