use Rattle.std.proofs.Common.{◌<◌, ◌∙◌, length, arith, rules}
use Rattle.std.proofs.lemmas.List.{length-set}
use Rattle.simulator_field.proofs.Later.{may_go_on, one_later}
use Rattle.simulator_field.proofs.time_passed.pass_all.Goals as goal

pub pass-requires : goal.pass-requires
pass-requires g c =
    let below : c.loop-place.place < length c.args.servers.now.items = search rules
    in let enough : c.loop-place.place < length c.args.steps.now = omega (arith, c.requires.enough, below)
    in let within = may_go_on c.args.moment c.args.steps.now c.loop-place.place c.args.servers.now.items c.loop-place.servers.items c.index_mut.result.now below enough c.requires.within c.loop-place.invariant.items c.index_mut.ensures.value
    in omega (arith, within)

pub loop-place-preserved : goal.loop-place-preserved
loop-place-preserved g c =
    let below : c.loop-place.place < length c.args.servers.now.items = search rules
    in let enough : c.loop-place.place < length c.args.steps.now = omega (arith, c.requires.enough, below)
    in record {
      items = one_later c.args.moment c.args.steps.now c.loop-place.place c.args.servers.now.items c.loop-place.servers.items c.index_mut.result.now c.pass.new.self below enough
          c.loop-place.invariant.items c.index_mut.ensures.value c.pass.ensures;
      each = length-set c.loop-place.servers.items c.loop-place.place c.pass.new.self ∙ c.loop-place.invariant.each;
    }
