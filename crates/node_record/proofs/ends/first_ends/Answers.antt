use Rattle.std.proofs.Common.{length}
use Rattle.replay_lines.specs.Names.{node_names}
use Rattle.node_record.proofs.EndsLent.{counted_at, found_at, none_at}
use Rattle.node_record.proofs.ends.first_ends.Goals as goal

pub ends_at-requires : goal.ends_at-requires
ends_at-requires c = counted_at (length (node_names c.args.layout.now)) c.first.result.now c.args.networks.now.first c.first.ensures c.requires

pub returns-clause-found : goal.returns-clause-found
returns-clause-found c = found_at (λ v. v.items) c.first.result.now c.args.networks.now.first c.ends_at.result c.first.ensures c.ends_at.ensures.found

pub returns-clause-explains : goal.returns-clause-explains
returns-clause-explains c = none_at c.args.layout.now c.first.result.now c.args.networks.now.first c.ends_at.result c.first.ensures c.ends_at.ensures.explains
