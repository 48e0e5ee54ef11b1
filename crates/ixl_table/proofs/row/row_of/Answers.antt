use Rattle.std.proofs.Common.{◌∙◌, List, ap, get_or, map, subst, sym, ℕ}
use Rattle.ixl_spec.specs.sci_telegram.declared.message.Side.TheVariants as side
use Rattle.ixl_spec.specs.layout.declared.ids.SignalId.{SignalId}
use Rattle.ixl_spec.specs.layout.Entries.{Site}
use Rattle.ixl_spec.specs.control_table.Topology.{IsRoute}
use Rattle.ixl_spec.specs.control_table.Table.{AreSections}
use Rattle.ixl_table.specs.Table.{IsSetOf, as_section, required}
use Rattle.ixl_table.specs.inside.Made.{AreNeedsOf}
use Rattle.ixl_table.proofs.Lists.{get-at}
use Rattle.ixl_table.proofs.Made.{all-until, approach-within, needed-at, sections-set}
use Rattle.ixl_table.proofs.row.row_of.Goals as goal

pub set_of-approach_row-requires : goal.set_of-approach_row-requires
set_of-approach_row-requires c =
    let l = c.args.table.now in
    let a = c.args.route in
    let r = c.index-routes-route.result in
    let routes = c.routes.ensures ∙ ap (λ (p : Site). p.routes) c.layout.ensures.entries in
    let at : IsRoute l a r = get-at l.routes a.0 r c.requires (c.index-routes-route.is ∙ ap (λ rs. get_or rs a.0 r) routes) in
    approach-within l c.layout.ensures.station a r at c.in_ok-approach.approach.items c.deref-2.result.now c.deref-2.ensures.value (c.in_ok-approach.ensures ∙ c.approach.ensures)

pub invariant_of-result : goal.invariant_of-result
invariant_of-result c =
    let l = c.args.table.now in
    let a = c.args.route in
    let are : AreSections l a (map as_section c.in_ok-sections.sections.items) = subst (AreSections l a) (sym c.in_ok-sections.ensures) c.sections.ensures in
    let leads = c.a_route_leads_over_its_sections_alone.ensures l c.layout.ensures.once a (map as_section c.in_ok-sections.sections.items) are in
    record {
      of_sections = sections-set l a c.in_ok-sections.sections.items c.masks-masks.result.sections leads c.masks-masks.ensures.sections;
      of_approach = subst (λ (xs : List ℕ). IsSetOf xs c.set_of-approach_row.result) c.deref-2.ensures.value c.set_of-approach_row.ensures;
      at_right = needed-at l a c.in_ok-needs.needs.items side.Right c.masks-masks.result.right c.in_ok-needs.ensures.points c.masks-masks.ensures.right;
      at_left = needed-at l a c.in_ok-needs.needs.items side.Left c.masks-masks.result.left c.in_ok-needs.ensures.points c.masks-masks.ensures.left;
    }

pub returns : goal.returns
returns c =
    let l = c.args.table.now in
    let a = c.args.route in
    let r = c.index-routes-route.result in
    let routes = c.routes.ensures ∙ ap (λ (p : Site). p.routes) c.layout.ensures.entries in
    let at : IsRoute l a r = get-at l.routes a.0 r c.requires (c.index-routes-route.is ∙ ap (λ rs. get_or rs a.0 r) routes) in
    let are : AreSections l a (map as_section c.in_ok-sections.sections.items) = subst (AreSections l a) (sym c.in_ok-sections.ensures) c.sections.ensures in
    let leads = c.a_route_leads_over_its_sections_alone.ensures l c.layout.ensures.once a (map as_section c.in_ok-sections.sections.items) are in
    let some = c.required_points_await_a_section_of_the_route.ensures l c.layout.ensures.station c.layout.ensures.once c.layout.ensures.sound a in
    let needs = c.in_ok-needs.needs.items in
    let until = subst (λ (xs : List ℕ). AreNeedsOf l a xs (required needs) needs) c.deref.ensures.value c.in_ok-needs.ensures.until in
    record {
      written = r;
      is_route = at;
      entry = ap (λ (s : SignalId). s.0) c.entry.ensures;
      aspect = c.aspect.ensures.aspect;
      sections = are;
      needs = c.in_ok-needs.ensures.points;
      until = all-until l a c.in_ok-sections.sections.items needs leads some c.in_ok-needs.ensures.points until;
      approach = c.in_ok-approach.ensures ∙ c.approach.ensures;
      extra = c.in_ok-route_numbers.ensures ∙ c.extra.ensures;
    }
