use Rattle.std.proofs.Common.{◌≡◌, ◌-◌, ap, arith, length, sym, ◌∙◌}
use Rattle.ixl_state.specs.ixl_spec.Table.{Row}
use Rattle.ixl.proofs.RowLaws.{same_row}
use Rattle.ixl.proofs.Rules.{all_freed, no_more_freed, one_freed_more, phase_ended}
use Rattle.ixl.proofs.passage.free_by_passage.Goals as goal

pub free_next-requires-clause-ended : goal.free_next-requires-clause-ended
free_next-requires-clause-ended c row route kept =
    phase_ended c.loop-place.state.sited.table c.loop-place.state.ixl row route route.phase (sym (c.is_next_freeable.ensures row route kept) ∙ c.if-not-is_next_freeable.false)

pub returns-then-not-is_next_freeable : goal.returns-then-not-is_next_freeable
returns-then-not-is_next_freeable c = no_more_freed c.args.number c.args.state.now c.loop-place.state c.loop-place._place (length c.sections-place-end.result.now - c.loop-place._place) c.is_next_freeable.result c.keeps_route.ensures.kept
    (λ row route kept. let same : length c.sections-place-end.result.now ≡ length row.sections = ap length (c.sections-place-end.ensures ∙ ap (λ (r : Row). r.sections) (same_row c.args.state.now.sited.table.rows c.args.number c.row_of.result.now row c.row_of.ensures kept.0))
    in omega (arith, same, c.loop-place-test.true))
    c.loop-place.invariant c.keeps_route-in-loop-place.ensures.kept c.is_next_freeable.ensures c.if-not-is_next_freeable.true

pub loop-place-preserved : goal.loop-place-preserved
loop-place-preserved c = one_freed_more c.args.number c.loop-place._place c.args.state.now c.loop-place.state c.free_next.new.self c.is_next_freeable.result c.loop-place.invariant
    c.keeps_route-in-loop-place.ensures.kept c.is_next_freeable.ensures c.if-not-is_next_freeable.false c.free_next.ensures

pub returns : goal.returns
returns c = all_freed c.args.number c.args.state.now c.loop-place.state c.loop-place._place c.keeps_route.ensures.kept
    (λ row route kept. let same : length c.sections-place-end.result.now ≡ length row.sections = ap length (c.sections-place-end.ensures ∙ ap (λ (r : Row). r.sections) (same_row c.args.state.now.sited.table.rows c.args.number c.row_of.result.now row c.row_of.ensures kept.0))
    in omega (arith, same, c.loop-place-test.false, c.loop-place.auto._place-end)) c.loop-place.invariant
