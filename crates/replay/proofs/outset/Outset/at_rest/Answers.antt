use Rattle.std.proofs.Common.{ap, length, rules}
use Rattle.replay.proofs.Outsets.{lies_at_rest}
use Rattle.replay.proofs.outset.Outset.at_rest.Goals as goal

pub returns : goal.returns
returns c =
    lies_at_rest c.args.layout.now c.in_ok-positions.positions.items c.in_ok-occupancies.occupancies.items _ _
    (c.in_ok-positions.ensures.items_if_clones_equal (search rules)) (c.in_ok-occupancies.ensures.items_if_clones_equal (search rules))
    (ap length c.points.ensures) (ap length c.sections.ensures)
