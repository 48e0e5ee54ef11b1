use Rattle.std.proofs.Common.{ap, sym, subst, ◌∙◌, List, ℕ}
use Rattle.simulator_pair_text.specs.declared.line.PairLine.{PairLine}
use Rattle.simulator_pair_text.specs.declared.line.PairLine.TheVariants.{Picture}
use Rattle.simulator_pair_text.specs.Answers.{answer_text, seen_of, picture_text}
use Rattle.simulator_pair_text.specs.Flow.{Flowing}
use Rattle.simulator_pair_text.specs.Transcript.{Writes, feed, event, flow, picture}
use Rattle.simulator_pair_text.proofs.Transcripts.{wrote}
use Rattle.simulator_pair_text.proofs.print.carry_out.Goals as goal

pub returns-in-Event : goal.returns-in-Event
returns-in-Event g c =
    let text = answer_text c.event.result
    in wrote c.writeln.result (g.W.Write.contents c.args.out.now) (g.W.Write.contents c.writeln.new.self) c.args.run.now c.event.new.self c.args.line.now text c.writeln.ensures.bytes
    (subst (λ (said : PairLine). Writes c.args.run.now said (feed text) c.event.new.self) (sym c.in-Event.is) (event c.event.ensures))

pub returns-in-Flow : goal.returns-in-Flow
returns-in-Flow g c =
    let text = answer_text c.flow.result
    in wrote c.writeln-in-Flow.result (g.W.Write.contents c.args.out.now) (g.W.Write.contents c.writeln-in-Flow.new.self) c.args.run.now c.flow.new.self c.args.line.now text c.writeln-in-Flow.ensures.bytes
    (subst (λ (said : PairLine). Writes c.args.run.now said (feed text) c.flow.new.self) (sym c.in-Flow.is) (flow c.flow.ensures))

pub returns-in-Picture : goal.returns-in-Picture
returns-in-Picture g c =
    let text = picture_text c.of.result
    in let seen = c.of.ensures ∙ ap (λ (run : Flowing). seen_of run.pair) c.run.view_is
    in wrote c.writeln-in-Picture.result (g.W.Write.contents c.args.out.now) (g.W.Write.contents c.writeln-in-Picture.new.self) c.args.run.now c.args.run.now c.args.line.now text c.writeln-in-Picture.ensures.bytes
    (subst (λ (said : PairLine). Writes c.args.run.now said (feed text) c.args.run.now) (sym c.in-Picture.is)
    (subst (λ (bytes : List ℕ). Writes c.args.run.now Picture (feed bytes) c.args.run.now) (sym (ap picture_text seen)) picture))
