use Rattle.std.proofs.Common.{rules, arith, ◌++◌, [], ◌∷◌, ap, sym, ◌∙◌}
use Rattle.std.proofs.lemmas.Grind.{common_steps}
use Rattle.place_index.specs.Places.{IndexState, key_of}
use Rattle.simulator_pair.specs.inside.Indexed.{key_of_sent, keys_of}
use Rattle.simulator_pair.proofs.Copies.{keys-sent}
use Rattle.simulator_pair.proofs.bag.send_all.Goals as goal

pub loop-datagram-preserved : goal.loop-datagram-preserved
loop-datagram-preserved c =
    let sent = c.loop-datagram.sent.items
    in (
      first_of (search rules, grind (arith, common_steps)),
      first_of (search rules, grind (arith, common_steps)),
      first_of (search rules, grind (arith, common_steps)),
      first_of (search rules, grind (arith, common_steps)),
      ap (λ (i : IndexState). i.keys) c.push.ensures
          ∙ ap (λ k. k ++ c.key_of.result ∷ []) c.loop-datagram.invariant.4
          ∙ ap (λ k. keys_of sent ++ k ∷ []) (c.key_of.ensures.value ∙ ap key_of c.as_slice.ensures.value)
          ∙ sym (ap keys_of c.push_reserved.ensures.items ∙ keys-sent sent c.new.result ∙ ap (λ k. keys_of sent ++ k ∷ []) (ap key_of_sent c.new.ensures)),
      first_of (search rules, grind (arith, common_steps)),
    )
