use Rattle.std.proofs.Common.{◌∙◌, ap, subst, sym}
use Rattle.simulator.specs.simulator_spec.First.{IsOutsetOf, Outset}
use Rattle.replay.specs.Outset.{lines_in}
use Rattle.replay.specs.inside.Outsets.{outset_in}
use Rattle.replay.proofs.Outsets.{line_fits, no_line, one_line, rest_fits}
use Rattle.replay.proofs.outset.Outset.of.Goals as goal

pub loop-line-init : goal.loop-line-init
loop-line-init c =
    let site = c.args.layout.now
    in (
      ap (λ (o : Outset). lines_in o c.args.lines.now) c.in_ok-outset.ensures,
      subst (IsOutsetOf site) (sym c.in_ok-outset.ensures) (rest_fits site),
    )

pub loop-line-preserved : goal.loop-line-preserved
loop-line-preserved c =
    let site = c.args.layout.now
    in let before = c.loop-line.invariant
    in let this = c.line-item.result
    in let now = outset_in c.loop-line.outset
    in (
      one_line now (outset_in c.begin.new.self) c.args.lines.now c.loop-line.line-index this c.loop-line-test.true c.line-item.is c.begin.ensures ∙ before.0,
      subst (IsOutsetOf site) (sym c.begin.ensures) (line_fits site now this before.1),
    )

pub returns-clause-said : goal.returns-clause-said
returns-clause-said c =
    sym (no_line (outset_in c.loop-line.outset) c.args.lines.now c.loop-line.line-index c.loop-line-test.false) ∙ c.loop-line.invariant.0
