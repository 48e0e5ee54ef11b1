use Rattle.std.proofs.Common.{◌∙◌, ◌++◌, ap}
use Rattle.std.specs.Option.{option_map}
use Rattle.simulator_spec.specs.Nodes.{key_of}
use Rattle.simulator_spec.specs.ixl_spec.Step as ixl
use Rattle.ixl.specs.Interlocking.{told as told_as}
use Rattle.node_kinds.specs.Counted.{answered, with_links}
use Rattle.node_kinds.specs.Interlockings.{answer_by_step, commands, counted_if_accepted, to_have}
use Rattle.node_kinds.specs.Kept.{to_keep}
use Rattle.node_kinds.specs.MadeInterlocking.{asked_to_keep, seen}
use Rattle.node_kinds.specs.inside.InterlockingSteps.{SteppedState, stepped_at, texts}
use Rattle.node_kinds.specs.declared.interlocking_node.InterlockingNode.{InterlockingNode as Code}
use Rattle.node_kinds.proofs.Steps.{keeps_so, node_stepped}
use Rattle.node_kinds.proofs.interlocking_node.InterlockingNodeNodeMachine.step_on.Goals as goal

pub returns : goal.returns
returns c =
    let now = c.args.reading in
    let command = c.in-Some.command in
    let input = ixl.Commands command in
    let left = c.pop_front.new.self in
    let old : Code = record c.args.self.now { left = left } in
    let begun = c.begin-before.new.self in
    let asked = c.ask.new.self in
    let new = c.tell.new.self in
    let then = c.step-reply.new.self in
    let reply = told_as c.step-reply.result in
    let true_reply = ixl.reply now old.stepped.sited.table (key_of old.stepped.sited.site) input old.stepped.ixl in
    let begun_is = c.begin-before.ensures.rest in
    let then_is = c.step-reply.ensures.stepped ∙ ap (λ n. stepped_at now input n.stepped) begun_is in
    let replied = c.step-reply.ensures.answered ∙ ap (λ n. ixl.reply now n.stepped.sited.table (key_of n.stepped.sited.site) input n.stepped.ixl) begun_is in
    let counts = counted_if_accepted command reply begun.counts in
    let counted = c.count_answer.ensures ∙ ap (λ r. answered r begun.numbers) replied ∙ ap (λ n. answered true_reply n.numbers) begun_is in
    let asked_is = c.in_ok-ask.ensures.rest ∙ ap (λ (n : Code). record n { asked = asked.asked }) c.count_auxiliary.ensures in
    let before = c.begin-before.result in
    let keeps = c.in_ok-ask.ensures.asked ∙ ap (λ (n : Code). to_keep n.stepped.sited.site n.keeping input reply before (to_have (seen n).state)) c.count_auxiliary.ensures in
    let counted_is = ap (λ n. counted_if_accepted command reply n.counts) begun_is ∙ ap (λ r. counted_if_accepted command r old.counts) replied in
    let site = c.layout.ensures.layout ∙ ap (λ n. n.stepped.sited.site) asked_is ∙ ap (λ (s : SteppedState). s.sited.site) then_is in
    let answers_are =
    c.in_ok-say_answer_by_step.ensures
    ∙ ap (λ t. t ++ answer_by_step c.layout.result.now command reply) (ap (λ n. texts n.said) asked_is ∙ c.begin-before.ensures.said)
    ∙ ap (λ s. answer_by_step s command reply) site
    ∙ ap (answer_by_step old.stepped.sited.site command) replied in (
      input,
      commands left.items,
      ap commands c.in-Some.ensures.items,
      node_stepped now input old begun asked new then c.count_answer.new.numbers counts (texts c.say_answer_by_step.new.said)
          (record {
            begun_is = begun_is;
            asked_is = asked_is;
            then_is = then_is;
            keeps = keeps_so now input old begun then reply before counts (option_map asked_to_keep asked.asked) begun_is then_is replied c.begin-before.ensures.wanted counted_is keeps;
            counted = counted_is;
            answers_are = answers_are;
            numbered = λ links. ap (with_links old.told.items links) counted;
          })
          (record {
            stepped = c.tell.ensures.stepped;
            keeping = c.tell.ensures.keeping;
            asked = c.tell.ensures.asked;
            left = c.tell.ensures.left;
            counts = c.tell.ensures.counts;
            told = c.in_ok-tell.ensures.told;
            said = c.in_ok-tell.ensures.said;
            numbers = c.in_ok-tell.ensures.numbers;
          }),
    )
