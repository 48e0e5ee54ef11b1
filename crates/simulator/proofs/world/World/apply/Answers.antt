use Rattle.std.proofs.Common.{sym, subst}
use Rattle.ixl_state.specs.layout.Once.{Once}
use Rattle.ixl_state.specs.layout.Station.{IsStation}
use Rattle.ixl_state.specs.ixl_table.Table.{IsTableOf, SitedTable}
use Rattle.simulator.proofs.Promise.{goes_on}
use Rattle.simulator.proofs.world.World.apply.Goals as goal

pub invariant_of-self : goal.invariant_of-self
invariant_of-self c = (
  c.apply.ensures.whole,
  goes_on c.reached_worlds_are_safe.ensures.on c.self.inside.parts c.apply.new.self c.args.event.now c.apply.result c.self.invariant.1 c.apply.ensures.sited c.apply.ensures.step c.apply.ensures.allowed c.apply.ensures.same,
)

pub returns-clause-safe : goal.returns-clause-safe
returns-clause-safe c =
    let come = goes_on c.reached_worlds_are_safe.ensures.on c.self.inside.parts c.apply.new.self c.args.event.now c.apply.result c.self.invariant.1 c.apply.ensures.sited c.apply.ensures.step c.apply.ensures.allowed c.apply.ensures.same
    in let once = subst (λ (p : SitedTable). Once p.site) (sym c.apply.ensures.sited) c.facts.ensures.once
    in let station = subst (λ (p : SitedTable). IsStation p.site) (sym c.apply.ensures.sited) c.facts.ensures.station
    in let table = subst (λ (p : SitedTable). IsTableOf p.site p.table) (sym c.apply.ensures.sited) c.facts.ensures.table
    in λ shot of. c.reached_worlds_are_safe.ensures.safe _ _ _ shot once station table come of

pub returns-clause-links : goal.returns-clause-links
returns-clause-links c =
    let come = goes_on c.reached_worlds_are_safe.ensures.on c.self.inside.parts c.apply.new.self c.args.event.now c.apply.result c.self.invariant.1 c.apply.ensures.sited c.apply.ensures.step c.apply.ensures.allowed c.apply.ensures.same
    in let once = subst (λ (p : SitedTable). Once p.site) (sym c.apply.ensures.sited) c.facts.ensures.once
    in let station = subst (λ (p : SitedTable). IsStation p.site) (sym c.apply.ensures.sited) c.facts.ensures.station
    in c.reached_worlds_are_safe.ensures.links _ _ _ once station come

pub returns-clause-reached : goal.returns-clause-reached
returns-clause-reached c =
    let come = goes_on c.reached_worlds_are_safe.ensures.on c.self.inside.parts c.apply.new.self c.args.event.now c.apply.result c.self.invariant.1 c.apply.ensures.sited c.apply.ensures.step c.apply.ensures.allowed c.apply.ensures.same
    in let once = subst (λ (p : SitedTable). Once p.site) (sym c.apply.ensures.sited) c.facts.ensures.once
    in let station = subst (λ (p : SitedTable). IsStation p.site) (sym c.apply.ensures.sited) c.facts.ensures.station
    in let table = subst (λ (p : SitedTable). IsTableOf p.site p.table) (sym c.apply.ensures.sited) c.facts.ensures.table
    in c.reached_worlds_are_safe.ensures.reached _ _ _ once station table come
