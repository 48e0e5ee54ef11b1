use Rattle.std.proofs.Common.{◌≡◌, ◌<◌, ap, arith, get_or, length, rules, sym, true, ◌∙◌}
use Rattle.std.specs.Prelude.{◌&&◌, slice_get}
use Rattle.std.proofs.lemmas.Option.{slice_get-get_or}
use Rattle.ixl_state.specs.release.Passage.{PassageState, is_freeable}
use Rattle.ixl_state.specs.ixl_spec.State.{RouteState}
use Rattle.ixl_state.specs.ixl_spec.Table.{Row}
use Rattle.ixl.proofs.RowLaws.{next_frees, next_stands, same_row}
use Rattle.ixl.proofs.passage.is_next_freeable.Goals as goal

pub bounds-sections-freed : goal.bounds-sections-freed
bounds-sections-freed c = next_stands c.args.state.now c.args.number c.row_of.result.now c.sections.result.now c.route-route.result c.in-Ended.clock c.in-Ended.freed c.keeps_route.ensures.kept c.row_of.ensures c.sections.ensures c.route-route.ensures
    (sym c.phase.ensures ∙ c.in-Ended.is) c.keeps_route.ensures.left

pub offset_bounds-sections-freed : goal.offset_bounds-sections-freed
offset_bounds-sections-freed c =
    let within : c.in-Ended.freed < length c.sections.result.now = next_stands c.args.state.now c.args.number c.row_of.result.now c.sections.result.now c.route-route.result c.in-Ended.clock c.in-Ended.freed c.keeps_route.ensures.kept c.row_of.ensures c.sections.ensures c.route-route.ensures
    (sym c.phase.ensures ∙ c.in-Ended.is) c.keeps_route.ensures.left
    in let inv = c.sections.type_inv in search rules

pub freeable-requires : goal.freeable-requires
freeable-requires c =
    let within : c.in-Ended.freed < length c.sections.result.now = next_stands c.args.state.now c.args.number c.row_of.result.now c.sections.result.now c.route-route.result c.in-Ended.clock c.in-Ended.freed c.keeps_route.ensures.kept c.row_of.ensures c.sections.ensures c.route-route.ensures
    (sym c.phase.ensures ∙ c.in-Ended.is) c.keeps_route.ensures.left
    in let there = c.keeps_route.ensures.kept
    in let row : length c.sections.result.now ≡ length there.0.sections = ap length (c.sections.ensures ∙ ap (λ (r : Row). r.sections) (same_row c.args.state.now.sited.table.rows c.args.number c.row_of.result.now there.0 c.row_of.ensures there.2.0))
    in let passage : c.passage.result.sections ≡ length there.0.sections = ap (λ (p : PassageState). p.sections) (c.passage.ensures ∙ ap (λ (r : RouteState). r.passage) (c.route-route.ensures there.0 there.1 there.2)) ∙ c.keeps_route.ensures.sections there.0 there.1 there.2
    in omega (arith, within, row, passage)

pub returns-then-freeable : goal.returns-then-freeable
returns-then-freeable c row route kept =
    let within : c.in-Ended.freed < length c.sections.result.now = next_stands c.args.state.now c.args.number c.row_of.result.now c.sections.result.now c.route-route.result c.in-Ended.clock c.in-Ended.freed c.keeps_route.ensures.kept c.row_of.ensures c.sections.ensures c.route-route.ensures
    (sym c.phase.ensures ∙ c.in-Ended.is) c.keeps_route.ensures.left
    in let same : c.route-route.result ≡ route = c.route-route.ensures row route kept
    in sym (ap (λ b. b && c.is_section_clear.result) c.if-freeable.true)
    ∙ next_frees c.args.state.now.sited.table c.args.state.now.ixl row route c.in-Ended.clock c.in-Ended.freed (get_or c.sections.result.now c.in-Ended.freed 0) c.freeable.result c.is_section_clear.result
    (ap (λ (r : RouteState). r.phase) (sym same) ∙ sym c.phase.ensures ∙ c.in-Ended.is)
    (sym (ap (λ list. slice_get list c.in-Ended.freed) (c.sections.ensures ∙ ap (λ (r : Row). r.sections) (same_row c.args.state.now.sited.table.rows c.args.number c.row_of.result.now row c.row_of.ensures kept.0))) ∙ slice_get-get_or c.sections.result.now c.in-Ended.freed 0 within)
    (c.freeable.ensures.value ∙ ap (λ (p : PassageState). is_freeable p c.in-Ended.freed true) (c.passage.ensures ∙ ap (λ (r : RouteState). r.passage) same))
    c.is_section_clear.ensures
