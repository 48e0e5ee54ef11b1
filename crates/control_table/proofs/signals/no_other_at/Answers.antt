use Rattle.std.proofs.Common.{sym, ◌∙◌}
use Rattle.control_table.specs.inside.TableTests.{no_other_at}
use Rattle.control_table.proofs.Loops.{other-goes_on, other-ends, other-is_done}
use Rattle.control_table.proofs.signals.no_other_at.Goals as goal

pub returns-then-is_other_at : goal.returns-then-is_other_at
returns-then-is_other_at c =
    other-ends c.args.exit c.args.port c.args.signals.now c.loop-place.place (no_other_at 0 c.args.signals.now c.args.exit c.args.port) c.index-signals-place.result c.loop-place-test.true c.index-signals-place.is (sym c.is_other_at.ensures ∙ c.if-is_other_at.true) c.loop-place.invariant

pub loop-place-preserved : goal.loop-place-preserved
loop-place-preserved c =
    other-goes_on c.args.exit c.args.port c.args.signals.now c.loop-place.place (no_other_at 0 c.args.signals.now c.args.exit c.args.port) c.index-signals-place.result c.loop-place-test.true c.index-signals-place.is (sym c.is_other_at.ensures ∙ c.if-is_other_at.false) c.loop-place.invariant

pub returns : goal.returns
returns c =
    other-is_done c.args.exit c.args.port c.args.signals.now c.loop-place.place (no_other_at 0 c.args.signals.now c.args.exit c.args.port) c.loop-place-test.false c.loop-place.invariant
