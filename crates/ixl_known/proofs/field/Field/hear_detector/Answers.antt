use Rattle.std.proofs.Common.{◌<◌, length, subst, sym}
use Rattle.ixl_known.specs.Field.{FieldState}
use Rattle.ixl_known.proofs.FieldAfter.{at_inside, field_in, detector_field, detector_there}
use Rattle.ixl_known.proofs.NodeEffects.{detector_hears}
use Rattle.ixl_known.proofs.RowsRenewed.{field_renewed}
use Rattle.ixl_known.proofs.field.Field.hear_detector.Goals as goal

pub returns-clause-goes : goal.returns-clause-goes
returns-clause-goes c rest = field_in _ _ _ rest _ _ _ _ _ c.self.view_is
    (detector_field c.args.now 30 _ _ rest _ _ c.args.place c.index_mut.result.now _ _ (at_inside c.args.now _ _ c.self.view_is c.requires.clock) (subst (λ (f : FieldState). c.args.place < length f.detectors) (sym c.self.view_is) c.requires.there) c.index_mut.ensures.value c.hear-verdict.ensures.goes
    (λ is node box_is. detector_hears c.args.now c.args.place c.args.datagram.now _ _ _ _ _ is node box_is))

pub returns-clause-verdict : goal.returns-clause-verdict
returns-clause-verdict c = detector_there _ _ c.args.place c.index_mut.result.now _ c.self.view_is c.requires.there c.index_mut.ensures.value c.hear-verdict.ensures.verdict

pub returns-clause-heard : goal.returns-clause-heard
returns-clause-heard c = detector_there _ _ c.args.place c.index_mut.result.now _ c.self.view_is c.requires.there c.index_mut.ensures.value c.hear-verdict.ensures.heard

pub invariant_of-self : goal.invariant_of-self
invariant_of-self c = field_renewed (record { known_signals = c.self.inside.known_signals.items; known_points = c.self.inside.known_points.items; detectors = c.self.inside.detectors.items; reporters = c.self.inside.reporters.items })
    c.args.place c.hear-verdict.new.self c.index.result.now c.deref.result.now c.self.inside.sections c.renewed-self-inside.result c.self.inside.points c.self.invariant
    (subst (λ (f : FieldState). c.args.place < length f.detectors) (sym c.self.view_is) c.requires.there) c.deref.ensures.value c.index.ensures c.renewed-self-inside.ensures
