use Rattle.std.proofs.Common.{ap, ◌∙◌, get_or}
use Rattle.std.proofs.lemmas.Bool.Decides.{Decides-at}
use Rattle.layout.specs.Entries.{Site, RouteEntry}
use Rattle.std.specs.FinSet.{contains}
use Rattle.control_table.specs.Topology.{IsRoute}
use Rattle.control_table.specs.inside.TableTests.{awaited_by}
use Rattle.control_table.proofs.ConflictLaws.{get-at}
use Rattle.control_table.proofs.FreeingLaws.{awaits-decides}
use Rattle.control_table.proofs.checked.Checked.awaited.Goals as goal

pub returns : goal.returns
returns c = λ s.
    let l = c.args.self.now in
    let a = c.args.route in
    let r = c.index-routes-route.result in
    let flanks = c.protections.result.now in
    let lent = c.layout-layout.ensures.entries in
    let routes = c.routes.ensures ∙ ap (λ (p : Site). p.routes) lent in
    let at : IsRoute l a r = get-at l.routes a.0 r c.requires (c.index-routes-route.is ∙ ap (λ rs. get_or rs a.0 r) routes) in
    let is = ap (λ m. contains m s.0) (c.awaited.ensures ∙ ap (λ (p : Site). awaited_by p r flanks c.args.point) lent) in
    Decides-at _ _ is (awaits-decides l a r flanks c.args.point s at c.protections.ensures c.layout-layout.ensures.once c.layout-layout.ensures.sound)
