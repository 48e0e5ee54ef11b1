use Rattle.std.proofs.Common.{ap, ◌+◌, ◌∙◌, rules}
use Rattle.simulator_pair.specs.inside.Seen.{seen_end, concluded}
use Rattle.simulator_pair.proofs.Steps.{concluded-end, length-posted_alone}
use Rattle.simulator_pair.proofs.node.Node.call.Goals as goal

pub returns : goal.returns
unfolding seen_end
returns c =
    let step = c.call_link-made.ensures
    in let made = c.call_link-made.result
    in let was_open = c.is_open-was_open.result
    in let taken = c.as_slice.result.now
    in record {
      end = c.conclude.ensures.end
          ∙ ap (λ node. concluded was_open made.enters made.given.items taken (c.args.moment + c.len.result) (seen_end node)) step.link
          ∙ concluded-end _ _ c.args.moment c.len.result was_open _ _ _ c.is_open-was_open.ensures step.made.enters step.made.given (c.as_slice.ensures.value ∙ step.handed.taken)
          (c.len.ensures.count ∙ length-posted_alone _ _ _ _ c.requires.nothing_out step.handed.posted);
      handed = step.handed;
      answer = step.made.answer;
      clock = search rules;
      same_clock = search rules;
      lists = search rules;
    }
