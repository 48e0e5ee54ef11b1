use Rattle.std.proofs.Common.{ℕ, List, subst}
use Rattle.embedded_ixl.specs.Made.{IsMadeOf}
use Rattle.interlocking_c.proofs.start.zendurai_interlocking_start.Goals as goal

pub returns-in-Ok-new-clause-does : goal.returns-in-Ok-new-clause-does
returns-in-Ok-new-clause-does c = λ ok. (
  record { embedded = c.in-Ok-new.embedded },
  c.put.ensures,
  subst (λ (text : List ℕ). IsMadeOf text c.args.first_sequence_number c.args.now c.in-Ok-new.embedded) c.in-Ok.ensures.cases.0 c.in-Ok-new.ensures.made,
)
