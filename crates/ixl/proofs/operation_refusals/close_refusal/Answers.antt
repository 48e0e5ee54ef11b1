use Rattle.std.proofs.Common.{◌∙◌, ap, sym}
use Rattle.std.specs.Prelude.{None}
use Rattle.ixl_state.specs.ixl_spec.Commands.{held_told}
use Rattle.ixl.proofs.Causes.{thing_missing, thing_there}
use Rattle.ixl.proofs.operation_refusals.close_refusal.Goals as goal

pub returns-then-not-has_named : goal.returns-then-not-has_named
returns-then-not-has_named c = thing_missing _ _ (sym c.has_named.ensures ∙ c.if-not-has_named.true)

pub returns-in-Some : goal.returns-in-Some
returns-in-Some c = ap (λ first. held_told first None) c.in-Some.ensures ∙ thing_there _ _ (sym c.has_named.ensures ∙ c.if-not-has_named.false)

pub returns-in-None : goal.returns-in-None
returns-in-None c = ap (λ first. held_told first None) c.in-None.ensures ∙ thing_there _ _ (sym c.has_named.ensures ∙ c.if-not-has_named.false)
