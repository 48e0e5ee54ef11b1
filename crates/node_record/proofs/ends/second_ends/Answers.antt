use Rattle.std.proofs.Common.{length, refl}
use Rattle.replay_lines.specs.Names.{node_names}
use Rattle.node_record.specs.GivenEnds.{second_of}
use Rattle.node_record.proofs.EndsLent.{counted_at, found_at, no_ends_found, none_at, second_is, second_is_none}
use Rattle.node_record.proofs.ends.second_ends.Goals as goal

pub ends_at-requires : goal.ends_at-requires
ends_at-requires c =
    counted_at (length (node_names c.args.layout.now)) c.in-Some.second.now (second_of c.args.networks.now) (second_is c.args.networks.now c.second.result c.in-Some.second c.second.ensures c.in-Some.is) c.requires

pub returns-in-Some-clause-found : goal.returns-in-Some-clause-found
returns-in-Some-clause-found c =
    found_at (λ v. v.items) c.in-Some.second.now (second_of c.args.networks.now) c.ends_at.result (second_is c.args.networks.now c.second.result c.in-Some.second c.second.ensures c.in-Some.is) c.ends_at.ensures.found

pub returns-in-Some-clause-explains : goal.returns-in-Some-clause-explains
returns-in-Some-clause-explains c =
    none_at c.args.layout.now c.in-Some.second.now (second_of c.args.networks.now) c.ends_at.result (second_is c.args.networks.now c.second.result c.in-Some.second c.second.ensures c.in-Some.is) c.ends_at.ensures.explains

pub returns-in-None-clause-found : goal.returns-in-None-clause-found
returns-in-None-clause-found c = no_ends_found c.args.networks.now c.new.result.items c.new.ensures.items (second_is_none c.args.networks.now c.second.result c.second.ensures c.in-None.is)
