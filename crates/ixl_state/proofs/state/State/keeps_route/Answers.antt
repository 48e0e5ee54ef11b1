use Rattle.ixl_state.proofs.state.State.keeps_route.Goals as goal

pub returns-clause-sections : goal.returns-clause-sections
returns-clause-sections c row route kept = (c.table.ensures.within c.args.number row route kept).0

pub returns-clause-seen : goal.returns-clause-seen
returns-clause-seen c row route kept = (c.table.ensures.within c.args.number row route kept).1
