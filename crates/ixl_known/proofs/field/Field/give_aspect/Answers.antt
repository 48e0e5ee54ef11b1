use Rattle.ixl_spec.specs.StepSoFar.{giving_aspect}
use Rattle.std.proofs.Common.{◌≤◌, arith, length, subst}
use Rattle.std.proofs.lemmas.Option.{slice_get_past}
use Rattle.ixl_known.specs.Field.{FieldState}
use Rattle.ixl_known.proofs.FieldAfter.{at_inside, field_in, known_signal_field, nothing_done}
use Rattle.ixl_known.proofs.NodeEffects.{known_signal_gives, no_known_signal}
use Rattle.ixl_known.proofs.field.Field.give_aspect.Goals as goal

pub returns-then-signal-len : goal.returns-then-signal-len
returns-then-signal-len c rest = field_in _ _ _ rest _ _ _ _ _ c.self.view_is
    (known_signal_field c.args.now 2 _ _ rest _ _ c.args.signal c.index_mut.result.now _ _ (at_inside c.args.now _ _ c.self.view_is c.requires.clock) (omega (arith, c.if-signal-len.true, c.len.ensures)) c.index_mut.ensures.value c.give.ensures
    (λ is node box_is. known_signal_gives c.args.now c.args.signal c.args.aspect _ _ _ _ _ is node box_is))

pub returns-else-signal-len : goal.returns-else-signal-len
returns-else-signal-len c rest = nothing_done c.args.now 2 (giving_aspect c.args.now c.args.signal c.args.aspect) rest c.args.self.now c.args.outbox.now c.requires.clock
    (no_known_signal c.args.now c.args.signal c.args.aspect _ _ (slice_get_past _ c.args.signal (subst (λ (f : FieldState). length f.known_signals ≤ c.args.signal) c.self.view_is (omega (arith, c.if-signal-len.false, c.len.ensures)))))
