use Rattle.node_record.proofs.EndsFound.{are_ends, no_ends}
use Rattle.node_record.proofs.ends.ends.Goals as goal

pub returns-clause-found : goal.returns-clause-found
returns-clause-found c =
    are_ends (λ v. record { first = v.first.items; second = v.second.items }) c.args.layout.now c.args.addresses.now c.in_ok-table.table c.layout.result.now c.ends_in-ends.result c.in_ok-table.ensures.sound
    c.layout.ensures.entries c.ends_in-ends.ensures.found

pub returns-clause-explains : goal.returns-clause-explains
returns-clause-explains c =
    no_ends c.args.layout.now c.args.addresses.now c.in_ok-table.table c.layout.result.now c.ends_in-ends.result c.in_ok-table.ensures.sound c.layout.ensures.entries c.ends_in-ends.ensures.explains
