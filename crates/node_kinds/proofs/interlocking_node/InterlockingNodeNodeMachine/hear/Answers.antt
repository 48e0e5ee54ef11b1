use Rattle.std.proofs.Common.{◌∙◌, ap}
use Rattle.std.specs.Option.{option_map}
use Rattle.simulator_spec.specs.Nodes.{key_of}
use Rattle.simulator_spec.specs.ixl_spec.Step as ixl
use Rattle.ixl.specs.Interlocking.{told as told_as}
use Rattle.node_kinds.specs.Counted.{answered, taken, with_links}
use Rattle.node_kinds.specs.MadeInterlocking.{asked_to_keep}
use Rattle.node_kinds.specs.inside.InterlockingSteps.{stepped_at, texts}
use Rattle.node_kinds.proofs.Steps.{keeps_so, node_stepped, three_ok}
use Rattle.node_kinds.proofs.interlocking_node.InterlockingNodeNodeMachine.hear.Goals as goal

pub returns : goal.returns
returns c =
    let now = c.args.reading in
    let input = ixl.Datagram c.args.bytes.now in
    let old = c.args.self.now in
    let begun = c.begin-before.new.self in
    let asked = c.ask.new.self in
    let new = c.tell.new.self in
    let then = c.step-reply.new.self in
    let reply = told_as c.step-reply.result in
    let begun_is = c.begin-before.ensures.rest in
    let then_is = c.step-reply.ensures.stepped ∙ ap (λ n. stepped_at now input n.stepped) begun_is in
    let replied = c.step-reply.ensures.answered ∙ ap (λ n. ixl.reply now n.stepped.sited.table (key_of n.stepped.sited.site) input n.stepped.ixl) begun_is in
    let true_reply = ixl.reply now old.stepped.sited.table (key_of old.stepped.sited.site) input old.stepped.ixl in
    let counted = c.count_taken.ensures
    ∙ ap (taken input reply) c.count_answer.ensures
    ∙ ap (λ r. taken input r (answered r begun.numbers)) replied
    ∙ ap (λ n. taken input true_reply (answered true_reply n.numbers)) begun_is in
    three_ok c.tell.result
    (λ told said numbers. node_stepped now input old begun asked new then c.count_taken.new.numbers begun.counts (texts asked.said)
    (record {
      begun_is = begun_is;
      asked_is = c.in_ok-ask.ensures.rest;
      then_is = then_is;
      keeps = keeps_so now input old begun then reply c.begin-before.result begun.counts (option_map asked_to_keep asked.asked) begun_is then_is replied c.begin-before.ensures.wanted (ap (λ n. n.counts) begun_is) c.in_ok-ask.ensures.asked;
      counted = ap (λ n. n.counts) begun_is;
      answers_are = ap (λ n. texts n.said) c.in_ok-ask.ensures.rest ∙ c.begin-before.ensures.said;
      numbered = λ links. ap (with_links old.told.items links) counted;
    })
    (record { stepped = c.tell.ensures.stepped; keeping = c.tell.ensures.keeping; asked = c.tell.ensures.asked; left = c.tell.ensures.left; counts = c.tell.ensures.counts; told = told; said = said; numbers = numbers }))
    c.tell.ensures.told c.tell.ensures.said c.tell.ensures.numbers
