use Rattle.std.proofs.Common.{◌∙◌, sym}
use Rattle.std.specs.Prelude.{Some, None}
use Rattle.ixl.proofs.Causes.{closed_told}
use Rattle.ixl.proofs.refusals.closed_refusal.Goals as goal

pub returns-in-Some : goal.returns-in-Some
returns-in-Some c row route kept =
    closed_told c.args.state.now.sited.table c.args.state.now.ixl c.args.number row (Some c.in-Some.thing) (sym c.in-Some.is ∙ c.first_closed.ensures row route kept)

pub returns-in-None : goal.returns-in-None
returns-in-None c row route kept =
    closed_told c.args.state.now.sited.table c.args.state.now.ixl c.args.number row None (sym c.in-None.is ∙ c.first_closed.ensures row route kept)
