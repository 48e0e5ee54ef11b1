use Rattle.ixl_known.specs.Field.{FieldState}
use Rattle.ixl_spec.specs.StepSoFar.{giving_move}
use Rattle.std.proofs.Common.{◌≤◌, arith, length, subst}
use Rattle.std.proofs.lemmas.Option.{slice_get_past}
use Rattle.ixl_known.proofs.FieldAfter.{at_inside, field_in, nothing_done, known_point_field}
use Rattle.ixl_known.proofs.NodeEffects.{no_known_point, known_point_gives}
use Rattle.ixl_known.proofs.field.Field.give_move.Goals as goal

pub returns-then-point-len : goal.returns-then-point-len
returns-then-point-len c rest many = field_in _ _ _ rest _ _ _ _ _ c.self.view_is
    (known_point_field c.args.now 2 _ _ rest _ _ c.args.point c.index_mut.result.now _ _ (at_inside c.args.now _ _ c.self.view_is c.requires.clock) (omega (arith, c.if-point-len.true, c.len.ensures)) c.index_mut.ensures.value c.give.ensures
    (λ is node box_is. known_point_gives c.args.now c.args.point c.args.side c.args.routes _ _ _ _ _ is many node box_is))

pub returns-else-point-len : goal.returns-else-point-len
returns-else-point-len c rest many = nothing_done c.args.now 2 (giving_move c.args.now c.args.point c.args.side) rest c.args.self.now c.args.outbox.now c.requires.clock
    (no_known_point c.args.now c.args.point c.args.side _ _ (slice_get_past _ c.args.point (subst (λ (f : FieldState). length f.known_points ≤ c.args.point) c.self.view_is (omega (arith, c.if-point-len.false, c.len.ensures)))))
