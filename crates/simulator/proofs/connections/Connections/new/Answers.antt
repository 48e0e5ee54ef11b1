use Rattle.std.proofs.Common.{◌∙◌, None, rules}
use Rattle.simulator_spec.specs.Nodes.{partners}
use Rattle.simulator.proofs.Places.{all_alike, partners_count}
use Rattle.simulator.proofs.connections.Connections.new.Goals as goal

pub returns : goal.returns
returns c =
    c.in_ok-begun.ensures.items_if_clones_equal (search rules)
    ∙ all_alike None (partners c.args.layout.now) _ (c.links.ensures.value ∙ partners_count c.args.layout.now)
