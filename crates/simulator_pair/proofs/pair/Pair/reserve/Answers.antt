use Rattle.std.proofs.Common.{sym, subst}
use Rattle.simulator_pair.specs.Pair.{PairState}
use Rattle.simulator_pair.specs.inside.Parts.{IsLinked, seen}
use Rattle.simulator_pair.specs.inside.Lit.{IsLit}
use Rattle.simulator_pair.proofs.pair.Pair.reserve.Goals as goal

pub invariant_of-self : goal.invariant_of-self
unfolding seen
invariant_of-self c =
    let Linked : PairState → Type 0 = λ state. IsLinked state.ends
    in record {
      whole = c.reserve.ensures.whole;
      linked = subst Linked (sym c.reserve.ensures.same) c.self.invariant.linked;
      lit = subst IsLit (sym c.reserve.ensures.same) c.self.invariant.lit;
    }
