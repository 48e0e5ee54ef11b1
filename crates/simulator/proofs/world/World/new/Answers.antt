use Rattle.std.proofs.Common.{◌≡◌, sym, ap, ◌∙◌, length, rules}
use Rattle.ixl_state.specs.layout.Entries.{Site}
use Rattle.simulator_spec.specs.First.{world_at}
use Rattle.simulator.proofs.AtRest.{lies_at_rest}
use Rattle.simulator.proofs.Below.{first_world}
use Rattle.simulator.proofs.world.World.new.Goals as goal

pub returns-clause-run : goal.returns-clause-run
unfolding first_world
returns-clause-run c =
    let world = c.in_ok-world.world
    in let site : c.layout-layout.result.now ≡ world.sited.site = c.layout-layout.ensures.entries ∙ sym c.in_ok-world.ensures.site
    in let points = ap length (c.points.ensures ∙ ap (λ (p : Site). p.points) site)
    in let sections = ap length (c.sections.ensures ∙ ap (λ (p : Site). p.sections) site)
    in let rest = lies_at_rest world.sited.site c.deref.result.now c.deref-2.result.now _ _ (c.deref.ensures.value ∙ c.in_ok-positions.ensures.items_if_clones_equal (search rules))
    (c.deref-2.ensures.value ∙ c.in_ok-occupancies.ensures.items_if_clones_equal (search rules)) points sections
    in c.in_ok-world.ensures.run ∙ ap (world_at world.sited.site world.sited.table) rest
