use Rattle.std.proofs.Common.{◌≡◌, ◌⊎◌, Bool, subst, sym, ◌∙◌, inl, inr, ⊎_elim, refl}
use Rattle.std.specs.Prelude.{◌↔◌, IsTrue}
use Rattle.std.specs.Bool.{Decides}
use Rattle.std.proofs.lemmas.Bool.{false≢true}
use Rattle.control_table.specs.sci_telegram.declared.message.Side.{Side}
use Rattle.control_table.specs.bit_row.Places.{Has}
use Rattle.route_lock.specs.Locks.{Holds, LockState}
use Rattle.route_lock.proofs.KeptLaws.{get-at, place-below, holds-is}
use Rattle.route_lock.proofs.locks.Locks.holds.Goals as goal

pub returns-then-contains : goal.returns-then-contains
returns-then-contains c =
    let l = c.self.inside.table in
    let locks = c.self.inside.locks.items in
    let a = c.args.route in
    let p = c.args.point in
    let k = c.index-rows.result.now in
    let b = c.contains.result in
    let at = get-at locks a.0 k (place-below l locks c.args.self.now a c.self.view_is c.self.invariant.each c.requires) c.index-rows.ensures in
    let d : Decides b (Has k.right p.0 ⊎ Has k.left p.0) = (λ h. inl (sym c.contains.ensures ∙ h), λ h. c.if-contains.true) in
    subst (λ (st : LockState). IsTrue b ↔ ((t : Side) × Holds st a p t)) c.self.view_is (holds-is l locks c.self.inside.all c.self.invariant p a k b at d)

pub returns-else-contains : goal.returns-else-contains
returns-else-contains c =
    let l = c.self.inside.table in
    let locks = c.self.inside.locks.items in
    let a = c.args.route in
    let p = c.args.point in
    let k = c.index-rows.result.now in
    let b = c.contains-else-contains.result in
    let at = get-at locks a.0 k (place-below l locks c.args.self.now a c.self.view_is c.self.invariant.each c.requires) c.index-rows.ensures in
    let d : Decides b (Has k.right p.0 ⊎ Has k.left p.0) =
    (λ h. inr (sym c.contains-else-contains.ensures ∙ h), λ h. ⊎_elim (λ r. absurd (false≢true (sym c.if-contains.false ∙ c.contains.ensures ∙ r))) (λ r. c.contains-else-contains.ensures ∙ r) h) in
    subst (λ (st : LockState). IsTrue b ↔ ((t : Side) × Holds st a p t)) c.self.view_is (holds-is l locks c.self.inside.all c.self.invariant p a k b at d)
