use Rattle.std.proofs.Common.{◌∙◌, ap}
use Rattle.route_derivation.specs.inside.HindranceSearch.{all_told}
use Rattle.route_derivation.proofs.ImpossibleLaws.{finds-impossible}
use Rattle.route_derivation.proofs.impossible.impossible_ways.Goals as goal

pub returns-clause-impossible : goal.returns-clause-impossible
returns-clause-impossible c =
    finds-impossible c.args.layout.now c.in_ok-ways.ensures.once c.args.signal c.in_ok-ways.ways.items c.in_ok-all_told.field-0.items c.in_ok-ways.ensures.station c.in_ok-ways.ensures.found
    (c.in_ok-all_told.ensures ∙ ap (all_told c.args.layout.now) c.deref.ensures.value)
