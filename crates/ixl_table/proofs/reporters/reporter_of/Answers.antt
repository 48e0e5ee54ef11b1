use Rattle.ixl_table.proofs.Made.{none-reports-grows, none-reports-all}
use Rattle.ixl_table.proofs.reporters.reporter_of.Goals as goal

pub loop-index-preserved : goal.loop-index-preserved
loop-index-preserved c = none-reports-grows c.args.detectors.now c.loop-index.index c.args.section c.index-detectors-index.result c.sections.result.now c.loop-index-test.true c.index-detectors-index.is c.sections.ensures c.in_default.ensures.none c.loop-index.invariant

pub returns-clause-none : goal.returns-clause-none
returns-clause-none c = none-reports-all c.args.detectors.now c.loop-index.index c.args.section c.loop-index-test.false c.loop-index.invariant
