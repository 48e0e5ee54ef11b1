use Rattle.layout.proofs.FaultLaws.{told-first}
use Rattle.layout.proofs.site.Layout.read.Goals as goal

pub returns-clause-fault : goal.returns-clause-fault
returns-clause-fault c = told-first c.args.text.now c.layout_in.result c.layout_in.ensures.read
