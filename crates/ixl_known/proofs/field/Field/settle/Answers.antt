use Rattle.std.proofs.Common.{arith, ◌∙◌}
use Rattle.std.proofs.lemmas.List.{with_items_is}
use Rattle.ixl_known.specs.Field.{AllAt, FieldState}
use Rattle.ixl_known.proofs.Alike.{points_kept_from, sections_kept_from}
use Rattle.ixl_known.proofs.FieldAfter.{same_lists}
use Rattle.ixl_known.proofs.ClockOnNodes.{settled_all}
use Rattle.ixl_known.proofs.field.Field.settle.Goals as goal

pub returns-clause-clock : goal.returns-clause-clock
returns-clause-clock c =
    let field : FieldState = record { known_signals = c.self.inside.known_signals.items; known_points = c.self.inside.known_points.items; detectors = c.self.inside.detectors.items; reporters = c.self.inside.reporters.items }
    in same_lists (AllAt c.args.now) _ c.settle_known_signals.new.known_signals _ c.settle_known_points-known_alike.new.known_points _ c.settle_detectors-told_alike.new.detectors c.self.inside.reporters.items
    (with_items_is c.self.inside.known_signals c.settle_known_signals.new.known_signals (omega (arith, c.settle_known_signals.auto.known_signals, c.deref_mut.ensures.len)))
    (with_items_is c.self.inside.known_points c.settle_known_points-known_alike.new.known_points (omega (arith, c.settle_known_points-known_alike.auto.known_points, c.deref_mut-2.ensures.len)))
    (with_items_is c.self.inside.detectors c.settle_detectors-told_alike.new.detectors (omega (arith, c.settle_detectors-told_alike.auto.detectors, c.deref_mut-3.ensures.len)))
    (settled_all c.args.now field _ c.settle_known_signals.new.known_signals _ c.settle_known_points-known_alike.new.known_points _ c.settle_detectors-told_alike.new.detectors c.settle_known_signals.ensures c.settle_known_points-known_alike.ensures.known_points c.settle_detectors-told_alike.ensures.detectors)

pub kept_or_made-self-inside-requires-clause-kept : goal.kept_or_made-self-inside-requires-clause-kept
kept_or_made-self-inside-requires-clause-kept c alike = sections_kept_from c.self.inside.reporters.items c.deref.result.now c.self.inside.detectors.items c.deref_mut-3.result.now c.settle_detectors-told_alike.new.detectors c.deref-2.result.now c.self.inside.sections
    c.deref.ensures.value c.deref_mut-3.ensures.value (c.deref-2.ensures.value ∙ with_items_is c.self.inside.detectors c.settle_detectors-told_alike.new.detectors (omega (arith, c.settle_detectors-told_alike.auto.detectors, c.deref_mut-3.ensures.len)))
    (c.settle_detectors-told_alike.ensures.alike alike) c.self.invariant.sections_are

pub kept_or_made-self-inside-requires-2-clause-kept : goal.kept_or_made-self-inside-requires-2-clause-kept
kept_or_made-self-inside-requires-2-clause-kept c alike = points_kept_from c.self.inside.known_points.items c.deref_mut-2.result.now c.settle_known_points-known_alike.new.known_points c.deref-3.result.now c.self.inside.points
    c.deref_mut-2.ensures.value (c.deref-3.ensures.value ∙ with_items_is c.self.inside.known_points c.settle_known_points-known_alike.new.known_points (omega (arith, c.settle_known_points-known_alike.auto.known_points, c.deref_mut-2.ensures.len)))
    (c.settle_known_points-known_alike.ensures.alike alike) c.self.invariant.points_are
