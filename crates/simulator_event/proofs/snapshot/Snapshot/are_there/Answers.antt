use Rattle.std.proofs.lemmas.Bool.{false≢true}
use Rattle.std.proofs.Common.{arith}
use Rattle.simulator_event.proofs.Safety.{not_there}
use Rattle.simulator_event.proofs.snapshot.Snapshot.are_there.Goals as goal

pub returns-then-not-is_there : goal.returns-then-not-is_there
returns-then-not-is_there c = (
  λ f. absurd (false≢true f),
  λ all. c.if-not-is_there.ensures.1 (not_there c.args.table.now c.args.self.now c.as_slice-held-items.result.now c.loop-held.held-index _ c.as_slice-held-items.ensures.value (omega arith) all),
)
