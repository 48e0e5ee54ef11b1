use Rattle.std.proofs.Common.{subst, sym, ⊎_elim}
use Rattle.std.proofs.lemmas.Bool.{false≢true}
use Rattle.std.proofs.Common.{◌∙◌}
use Rattle.control_table.specs.sci_telegram.declared.message.Side.{Side}
use Rattle.control_table.specs.sci_telegram.declared.message.Side.TheVariants as side
use Rattle.control_table.specs.layout.declared.ids.RouteId.{RouteId}
use Rattle.route_lock.specs.Locks.{Holds, LockState}
use Rattle.route_lock.proofs.KeptLaws.{right-held, left-held, held-somewhere}
use Rattle.route_lock.proofs.locks.Locks.point.Goals as goal

pub returns-then-contains-clause-some : goal.returns-then-contains-clause-some
returns-then-contains-clause-some c =
    subst (λ (st : LockState). (a : RouteId) × Holds st a c.args.point side.Right) c.self.view_is (right-held c.self.inside.table c.self.inside.locks.items c.self.inside.all c.self.invariant c.args.point (sym c.contains.ensures ∙ c.if-contains.true))

pub returns-then-contains-2-clause-some : goal.returns-then-contains-2-clause-some
returns-then-contains-2-clause-some c =
    subst (λ (st : LockState). (a : RouteId) × Holds st a c.args.point side.Left) c.self.view_is (left-held c.self.inside.table c.self.inside.locks.items c.self.inside.all c.self.invariant c.args.point (sym c.contains-2.ensures ∙ c.if-contains-2.true))

pub returns-clause-none : goal.returns-clause-none
returns-clause-none c = λ a t h.
    ⊎_elim (λ r. false≢true (sym c.if-contains.false ∙ c.contains.ensures ∙ r)) (λ r. false≢true (sym c.if-contains-2.false ∙ c.contains-2.ensures ∙ r))
    (held-somewhere c.self.inside.table c.self.inside.locks.items c.self.inside.all c.self.invariant c.args.point a t (subst (λ (st : LockState). Holds st a c.args.point t) (sym c.self.view_is) h))
