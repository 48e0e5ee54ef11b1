use Rattle.std.proofs.Common.{refl}
use Rattle.std.proofs.lemmas.Bool.{false≢true}
use Rattle.simulator_event.proofs.Safety.{safe_from, safe_shown, safe_apart}
use Rattle.simulator_event.proofs.snapshot.Snapshot.safe.Goals as goal

pub returns-then-not-is_of : goal.returns-then-not-is_of
returns-then-not-is_of c = (λ f. absurd (false≢true f), λ s. c.if-not-is_of.ensures.1 s.of)

pub returns-then-not-are_protected : goal.returns-then-not-are_protected
returns-then-not-are_protected c = (λ f. absurd (false≢true f), λ s. c.if-not-are_protected.ensures.1 (safe_shown c.args.table.now c.args.self.now s))

pub returns : goal.returns
returns c = (
  λ yes. safe_from c.args.table.now c.args.self.now (c.if-not-is_of.ensures.0 refl) (c.if-not-are_protected.ensures.0 refl) (c.are_apart.ensures.0 yes),
  λ s. c.are_apart.ensures.1 (safe_apart c.args.table.now c.args.self.now s),
)
