use Rattle.std.proofs.Common.{◌≡◌, not, sym, ap, ◌∙◌, rules, arith, Some, None, ◌∷◌, [], ◌+◌, drop, length}
use Rattle.std.specs.Prelude.{slice_get}
use Rattle.std.specs.Option.{option_map}
use Rattle.simulator_field.specs.Bag.{in_bag, not_lost}
use Rattle.simulator_field.specs.Network.{lent}
use Rattle.simulator_field.proofs.Views.{is_left, lends, nothing_left, passes}
use Rattle.simulator_field.proofs.bag.BagIterator.next.Goals as goal

pub overflow_add-self : goal.overflow_add-self
overflow_add-self c =
    let there : slice_get c.loop-one.self.network.now.sent c.loop-one.self.place ≡ Some (lent c.in-Some.one) = sym c.get.ensures.one ∙ ap (option_map lent) c.in-Some.is
    in let left = is_left c.loop-one.self.network.now.sent c.loop-one.self.place (lent c.in-Some.one) there
    in omega (arith, left.below)

pub returns-then-not-one-clause-steps : goal.returns-then-not-one-clause-steps
returns-then-not-one-clause-steps c =
    let there : slice_get c.loop-one.self.network.now.sent c.loop-one.self.place ≡ Some (lent c.in-Some.one) = sym c.get.ensures.one ∙ ap (option_map lent) c.in-Some.is
    in sym c.loop-one.invariant ∙ lends c.loop-one.self.network.now.sent c.loop-one.self.place (lent c.in-Some.one) there (ap not c.if-not-one.true)

pub returns-then-not-one-clause-goes : goal.returns-then-not-one-clause-goes
returns-then-not-one-clause-goes c =
    let there : slice_get c.loop-one.self.network.now.sent c.loop-one.self.place ≡ Some (lent c.in-Some.one) = sym c.get.ensures.one ∙ ap (option_map lent) c.in-Some.is
    in let steps : in_bag c.args.self.now ≡ lent c.in-Some.one ∷ not_lost (drop (c.loop-one.self.place + 1) c.loop-one.self.network.now.sent) =
    sym c.loop-one.invariant ∙ lends c.loop-one.self.network.now.sent c.loop-one.self.place (lent c.in-Some.one) there (ap not c.if-not-one.true)
    in record { on = λ finite. (tt, tt, omega (arith, ap length steps)); keeps = tt; rests = λ finite. tt }

pub loop-one-smaller : goal.loop-one-smaller
loop-one-smaller c =
    let there : slice_get c.loop-one.self.network.now.sent c.loop-one.self.place ≡ Some (lent c.in-Some.one) = sym c.get.ensures.one ∙ ap (option_map lent) c.in-Some.is
    in let left = is_left c.loop-one.self.network.now.sent c.loop-one.self.place (lent c.in-Some.one) there
    in omega (arith, left.below)

pub loop-one-preserved : goal.loop-one-preserved
loop-one-preserved c =
    let there : slice_get c.loop-one.self.network.now.sent c.loop-one.self.place ≡ Some (lent c.in-Some.one) = sym c.get.ensures.one ∙ ap (option_map lent) c.in-Some.is
    in passes c.loop-one.self.network.now.sent c.loop-one.self.place (lent c.in-Some.one) there (ap not c.if-not-one.false) ∙ c.loop-one.invariant

pub returns-clause-steps : goal.returns-clause-steps
returns-clause-steps c =
    let there : slice_get c.loop-one.self.network.now.sent c.loop-one.self.place ≡ None = sym c.get.ensures.one ∙ ap (option_map lent) c.in_default.is
    in let nothing : in_bag c.loop-one.self ≡ [] = ap not_lost (nothing_left c.loop-one.self.network.now.sent c.loop-one.self.place there)
    in (sym c.loop-one.invariant ∙ nothing, nothing)
