use Rattle.ixl_spec.specs.bit_row.Places.{Has}
use Rattle.ixl_spec.specs.control_table.AwaitedSections.{Awaits}
use Rattle.ixl_table.specs.Table.{as_section}
use Rattle.ixl_table.proofs.Made.{past-as}
use Rattle.ixl_table.proofs.need.until.Goals as goal

pub returns : goal.returns
returns c =
    past-as c.args.sections.now (Has c.awaited.result) (λ section. Awaits c.args.table.now c.args.route c.args.point (as_section section)) c.past_last.result
    (λ n. c.awaited.ensures (as_section n)) c.past_last.ensures
