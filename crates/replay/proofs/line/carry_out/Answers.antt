use Rattle.std.proofs.Common.{Ok, sym, subst}
use Rattle.replay_lines.specs.declared.line.SimLine.{SimLine}
use Rattle.simulator.specs.simulator_event.declared.reply.Answer.TheVariants.{Done}
use Rattle.replay.specs.Transcript.{Writes, answer_line, begun, event, flow}
use Rattle.replay.specs.inside.Runs.{flowing_of}
use Rattle.replay.proofs.Transcripts.{wrote, wrote_picture}
use Rattle.replay.proofs.line.carry_out.Goals as goal

pub returns-in-Begins-clause-done : goal.returns-in-Begins-clause-done
returns-in-Begins-clause-done g c =
    let now = flowing_of c.args.run.now
    in let text = answer_line (Ok Done) now
    in wrote c.write_answer.result (g.W.Write.contents c.args.out.now) (g.W.Write.contents c.write_answer.new.out) now now c.args.line.now text c.write_answer.ensures.done
    (subst (λ (said : SimLine). Writes now said text now) (sym c.in-Begins.is) begun)

pub returns-in-Event-clause-done : goal.returns-in-Event-clause-done
returns-in-Event-clause-done g c =
    let old = flowing_of c.args.run.now
    in let new = flowing_of c.event-answer.new.self
    in let text = answer_line c.event-answer.result new
    in wrote c.write_answer-in-Event.result (g.W.Write.contents c.args.out.now) (g.W.Write.contents c.write_answer-in-Event.new.out) old new c.args.line.now text c.write_answer-in-Event.ensures.done
    (subst (λ (said : SimLine). Writes old said text new) (sym c.in-Event.is) (event c.event-answer.ensures))

pub returns-in-Flow-clause-done : goal.returns-in-Flow-clause-done
returns-in-Flow-clause-done g c =
    let old = flowing_of c.args.run.now
    in let new = flowing_of c.flow-answer.new.self
    in let text = answer_line c.flow-answer.result new
    in wrote c.write_answer-in-Flow.result (g.W.Write.contents c.args.out.now) (g.W.Write.contents c.write_answer-in-Flow.new.out) old new c.args.line.now text c.write_answer-in-Flow.ensures.done
    (subst (λ (said : SimLine). Writes old said text new) (sym c.in-Flow.is) (flow c.flow-answer.ensures))

pub returns-in-Picture-clause-done : goal.returns-in-Picture-clause-done
returns-in-Picture-clause-done g c =
    wrote_picture c.write_picture.result (g.W.Write.contents c.args.out.now) (g.W.Write.contents c.write_picture.new.out)
    (flowing_of c.args.run.now) c.args.line.now c.in-Picture.is c.write_picture.ensures.done
