use Rattle.std.proofs.Common.{◌≡◌, ◌∙◌, ◌+◌, ◌<◌, ◌∷◌, ◌++◌, length, subst, sym, ap, drop, get_or, None, Some, option_map, rules}
use Rattle.std.proofs.lemmas.List.{drop_more}
use Rattle.node_kinds.specs.Made.{all_told}
use Rattle.node_kinds.proofs.OpeningLines.{told_on}
use Rattle.node_kinds.proofs.opening_node.OpeningNode.occupancies.Goals as goal

pub loop-section-preserved : goal.loop-section-preserved
loop-section-preserved c =
    let all = c.args.self.now.sections.items in
    let behind = drop (c.loop-section.section-index + 1) all in
    let told = c.loop-section.told.items in
    let one : get_or all c.loop-section.section-index None ≡ Some c.in-Some.occupancy = search rules in
    ap (λ t. option_map (λ more. t ++ more) (all_told behind)) c.in_ok-push.ensures.items
    ∙ sym (told_on told c.in-Some.occupancy behind)
    ∙ ap (λ o. option_map (λ more. told ++ more) (all_told (o ∷ behind))) (sym one)
    ∙ ap (λ l. option_map (λ more. told ++ more) (all_told l)) (sym (drop_more all c.loop-section.section-index None (subst (λ items. c.loop-section.section-index < length items) c.as_slice-section-items.ensures.value c.loop-section-test.true)))
    ∙ c.loop-section.invariant
