use Rattle.std.proofs.Common.{◌≡◌, ◌∙◌, ◌∷◌, ◌++◌, [], ap}
use Rattle.panel_desk.specs.declared.panel_line.PanelLine.{PanelLine}
use Rattle.panel_desk.specs.declared.panel_line.PanelLine.TheVariants.{Interlocking, Time}
use Rattle.panel_desk.specs.declared.panel_line.PanelLine.TheVariants as shows
use Rattle.panel_desk.specs.declared.panel_line.PanelNetwork.TheVariants.{A, B}
use Rattle.node_panel.specs.ClosedHeard.{closed_lines, each}
use Rattle.node_panel.specs.Heard.{authority_line, indication_line, link_line, network_line, pictured, point_line, released_line, route_line, section_line}
use Rattle.node_panel.proofs.Lists.{grown, grown_by, grown_from}
use Rattle.node_panel.proofs.pictured.HeardPictured.picture.Goals as goal

pub returns : goal.returns
returns c =
    let i = c.self.inside in
    let seconds : c.add_networks-2.new.lines.items ≡ c.add_networks.new.lines.items ++ each (network_line B) 1 i.second_lost.items =
    c.in_ok-add_networks-2.ensures ∙ ap (λ l. c.add_networks.new.lines.items ++ each (network_line B) 1 l) c.deref-9.ensures.value in
    let told =
    grown _ (Time i.millis ∷ []) _ c.in_ok-push.ensures.items
    (grown _ (Interlocking i.mode ∷ []) _ c.in_ok-push-2.ensures.items
    (grown_by _ _ (λ (l : PanelLine). l ∷ []) c.link_line.ensures c.in_ok-push-3.ensures.items
    (grown_by _ _ (each link_line 1) c.deref.ensures.value c.in_ok-add_links.ensures
    (grown_by _ _ (each section_line 0) c.deref-2.ensures.value c.in_ok-add_sections.ensures
    (grown_by _ _ (each point_line 0) c.deref-3.ensures.value c.in_ok-add_points.ensures
    (grown_by _ _ (each authority_line 0) c.deref-4.ensures.value c.in_ok-add_authorities.ensures
    (grown_by _ _ (each indication_line 0) c.deref-5.ensures.value c.in_ok-add_indications.ensures
    (grown_by _ _ (each route_line 0) c.deref-6.ensures.value c.in_ok-add_routes.ensures
    (grown_by _ _ (each released_line 0) c.deref-7.ensures.value c.in_ok-add_released.ensures
    (grown _ (closed_lines i.closed) _ c.in_ok-add_lines.ensures
    (grown _ (shows.Counted i.counts ∷ []) _ c.in_ok-push-4.ensures.items
    (grown_by _ _ (each (network_line A) 1) c.deref-8.ensures.value c.in_ok-add_networks.ensures
    seconds)))))))))))) in
    grown_from _ c.new-lines.ensures.items told ∙ ap pictured c.self.view_is
