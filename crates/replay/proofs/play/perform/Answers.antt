use Rattle.std.proofs.Common.{◌∙◌, ap, subst}
use Rattle.simulator.specs.layout.Entries.{Site}
use Rattle.simulator.specs.simulator_spec.First.{Outset}
use Rattle.replay.specs.Outset.{outset_of}
use Rattle.replay.specs.Transcript.{IsBeginning}
use Rattle.replay.specs.inside.Runs.{flowing_of}
use Rattle.replay.proofs.Transcripts.{goes-on-begins, goes-on-ends, goes-on-next}
use Rattle.replay.proofs.play.perform.Goals as goal

pub loop-line-init : goal.loop-line-init
loop-line-init g c =
    let first = flowing_of c.in_ok-run.run'
    in let said = c.in_ok-outset.ensures.said ∙ ap (λ (site : Site). outset_of site c.args.lines.now) c.layout.ensures.entries
    in let begins = subst (λ (outset : Outset). IsBeginning c.args.table outset first) said c.in_ok-run.ensures
    in (first, begins, goes-on-begins first c.args.lines.now (g.W.Write.contents c.args.out.now))

pub loop-line-preserved : goal.loop-line-preserved
loop-line-preserved g c =
    let before = c.loop-line.invariant
    in let wrote = c.in_ok-carry_out.ensures.done
    in (
      before.0,
      before.1,
      goes-on-next before.0 c.args.lines.now c.loop-line.line-index c.line-item.result
          (flowing_of c.loop-line.run) (flowing_of c.carry_out.new.run) (g.W.Write.contents c.args.out.now) (g.W.Write.contents c.loop-line.out) (g.W.Write.contents c.carry_out.new.out) wrote.0
          c.loop-line-test.true c.line-item.is wrote.1 wrote.2 before.2,
    )

pub returns-clause-done : goal.returns-clause-done
returns-clause-done g c =
    let before = c.loop-line.invariant
    in goes-on-ends c.args.table before.0 c.args.lines.now before.1 c.loop-line.line-index (flowing_of c.loop-line.run)
    (g.W.Write.contents c.args.out.now) (g.W.Write.contents c.loop-line.out) (g.W.Write.contents c.flush.new.self) c.loop-line-test.false before.2 c.in_ok-flush.ensures.bytes
