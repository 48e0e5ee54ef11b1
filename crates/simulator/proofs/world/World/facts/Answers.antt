use Rattle.std.proofs.Common.{subst}
use Rattle.ixl_state.specs.ixl_table.Table.{IsTableOf}
use Rattle.simulator_safety.specs.Reached.{HasSafeLinks, IsReachedSafely}
use Rattle.simulator.specs.World.{IsSafeWorld, View}
use Rattle.simulator.proofs.world.World.facts.Goals as goal

pub returns-clause-table : goal.returns-clause-table
returns-clause-table c = subst (λ (w : View). IsTableOf w.sited.site w.sited.table) c.self.view_is c.facts.ensures.table

pub returns-clause-safe : goal.returns-clause-safe
returns-clause-safe c = subst IsSafeWorld c.self.view_is (λ shot of. c.reached_worlds_are_safe.ensures.safe _ _ _ shot c.facts.ensures.once c.facts.ensures.station c.facts.ensures.table c.self.invariant.1 of)

pub returns-clause-links : goal.returns-clause-links
returns-clause-links c = subst (λ (w : View). HasSafeLinks w.sited.site w.run) c.self.view_is (c.reached_worlds_are_safe.ensures.links _ _ _ c.facts.ensures.once c.facts.ensures.station c.self.invariant.1)

pub returns-clause-reached : goal.returns-clause-reached
returns-clause-reached c =
    subst (λ (w : View). IsReachedSafely w.sited.site w.sited.table w.run) c.self.view_is (c.reached_worlds_are_safe.ensures.reached _ _ _ c.facts.ensures.once c.facts.ensures.station c.facts.ensures.table c.self.invariant.1)
