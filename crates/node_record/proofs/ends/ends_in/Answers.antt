use Rattle.std.proofs.Common.{inl, inr, refl}
use Rattle.std.proofs.lemmas.Result.{err_from_is_err_and}
use Rattle.node_record.specs.GivenEnds.{second_of}
use Rattle.node_record.proofs.CountedAddresses.{in_first, in_second}
use Rattle.node_record.proofs.EndsFound.{lack_end}
use Rattle.node_record.proofs.ends.ends_in.Goals as goal

pub first_ends-requires : goal.first_ends-requires
first_ends-requires c = in_first c.args.layout.now c.args.addresses.now c.in_ok-networks.networks c.in_ok-networks.ensures.sound

pub second_ends-requires : goal.second_ends-requires
second_ends-requires c = in_second c.args.layout.now c.args.addresses.now c.in_ok-networks.networks c.in_ok-networks.ensures.sound

pub returns-in_err-first-clause-explains : goal.returns-in_err-first-clause-explains
returns-in_err-first-clause-explains c =
    let p = err_from_is_err_and c.from_residual-in_err-first.result c.from_residual-in_err-first.ensures.1 in
    rw (p.1, p.2) (lack_end c.args.layout.now c.args.addresses.now c.in_ok-networks.networks c.in_ok-networks.networks.first c.in_err-first.field-0.0 c.in_ok-networks.ensures.sound (inl refl) c.in_err-first.ensures.explains)

pub returns-in_err-second-clause-explains : goal.returns-in_err-second-clause-explains
returns-in_err-second-clause-explains c =
    let p = err_from_is_err_and c.from_residual-in_err-second.result c.from_residual-in_err-second.ensures.1 in
    rw (p.1, p.2)
    (lack_end c.args.layout.now c.args.addresses.now c.in_ok-networks.networks (second_of c.in_ok-networks.networks) c.in_err-second.field-0.0 c.in_ok-networks.ensures.sound (inr refl) c.in_err-second.ensures.explains)

pub returns-clause-found : goal.returns-clause-found
returns-clause-found c = record {
  networks = c.in_ok-networks.networks;
  are = c.in_ok-networks.ensures.sound;
  first_are = c.in_ok-first.ensures.found;
  second_are = c.in_ok-second.ensures.found;
}
