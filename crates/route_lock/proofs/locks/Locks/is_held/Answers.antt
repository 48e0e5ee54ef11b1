use Rattle.std.proofs.Common.{subst, sym, ◌∙◌}
use Rattle.std.specs.Prelude.{◌↔◌, IsTrue}
use Rattle.control_table.specs.sci_telegram.declared.message.Side.{Side}
use Rattle.control_table.specs.layout.declared.ids.RouteId.{RouteId}
use Rattle.route_lock.specs.Locks.{Holds, LockState}
use Rattle.route_lock.specs.Rows.{state_of}
use Rattle.route_lock.proofs.KeptLaws.{held-left, held-right, left-held, right-held}
use Rattle.route_lock.proofs.locks.Locks.is_held.Goals as goal

pub returns-in-Right : goal.returns-in-Right
returns-in-Right c =
    let l = c.self.inside.table in
    let locks = c.self.inside.locks.items in
    let all = c.self.inside.all in
    let kept = c.self.invariant in
    let p = c.args.point in
    let b = c.contains.result in
    subst (λ (st : LockState). IsTrue b ↔ ((a : RouteId) × Holds st a p c.args.side)) c.self.view_is
    (subst (λ (t : Side). IsTrue b ↔ ((a : RouteId) × Holds (state_of l locks) a p t)) (sym c.in-Right.is)
    ((λ h. right-held l locks all kept p (sym c.contains.ensures ∙ h)), (λ h. c.contains.ensures ∙ held-right l locks all kept p h.0 h.1)))

pub returns-in-Left : goal.returns-in-Left
returns-in-Left c =
    let l = c.self.inside.table in
    let locks = c.self.inside.locks.items in
    let all = c.self.inside.all in
    let kept = c.self.invariant in
    let p = c.args.point in
    let b = c.contains-in-Left.result in
    subst (λ (st : LockState). IsTrue b ↔ ((a : RouteId) × Holds st a p c.args.side)) c.self.view_is
    (subst (λ (t : Side). IsTrue b ↔ ((a : RouteId) × Holds (state_of l locks) a p t)) (sym c.in-Left.is)
    ((λ h. left-held l locks all kept p (sym c.contains-in-Left.ensures ∙ h)), (λ h. c.contains-in-Left.ensures ∙ held-left l locks all kept p h.0 h.1)))
