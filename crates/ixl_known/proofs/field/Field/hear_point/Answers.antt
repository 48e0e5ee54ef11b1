use Rattle.std.proofs.Common.{◌<◌, length, subst, sym}
use Rattle.ixl_known.specs.Field.{FieldState}
use Rattle.ixl_known.proofs.FieldAfter.{at_inside, field_in, known_point_field, known_point_there}
use Rattle.ixl_known.proofs.NodeEffects.{known_point_hears}
use Rattle.ixl_known.proofs.field.Field.hear_point.Goals as goal

pub returns-clause-goes : goal.returns-clause-goes
returns-clause-goes c rest = field_in _ _ _ rest _ _ _ _ _ c.self.view_is
    (known_point_field c.args.now 30 _ _ rest _ _ c.args.place c.index_mut.result.now _ _ (at_inside c.args.now _ _ c.self.view_is c.requires.clock) (subst (λ (f : FieldState). c.args.place < length f.known_points) (sym c.self.view_is) c.requires.there) c.index_mut.ensures.value c.hear-verdict.ensures.goes
    (λ is node box_is. known_point_hears c.args.now c.args.place c.args.datagram.now _ _ _ _ _ is node box_is))

pub returns-clause-verdict : goal.returns-clause-verdict
returns-clause-verdict c = known_point_there _ _ c.args.place c.index_mut.result.now _ c.self.view_is c.requires.there c.index_mut.ensures.value c.hear-verdict.ensures.verdict
