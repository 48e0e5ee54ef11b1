use Rattle.std.proofs.Common.{◌≡◌, sym, refl, ◌∙◌}
use Rattle.std.proofs.lemmas.Bool.{false≢true}
use Rattle.std.specs.FinSet.{empty, intersection, union}
use Rattle.route_lock.specs.Rows.{RowsClash}
use Rattle.route_lock.proofs.KeptLaws.{none-against}
use Rattle.route_lock.proofs.locks.fault_of.Goals as goal

pub returns-in-None-clause-none : goal.returns-in-None-clause-none
returns-in-None-clause-none c =
    let k = c.args.rows.now in
    let m = c.args.need.now in
    let free : RowsClash k m → ⊥ = λ h. false≢true (sym c.if-clashes.false ∙ c.clashes.ensures.1 h) in
    let nothing : union (intersection k.right m.left) (intersection k.left m.right) ≡ empty =
    (λ i. union (sym c.intersection-right.ensures i) (sym c.intersection-left.ensures i)) ∙ sym c.union.ensures ∙ c.in-None.ensures.none.0 refl in
    none-against k m free nothing
