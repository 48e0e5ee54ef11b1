use Rattle.std.proofs.Common.{◌≡◌, ◌∙◌, ◌++◌, ◌<◌, ◌≤◌, ap, subst, List, ℕ, get_or, length, string_bytes}
use Rattle.ixl_state.specs.layout.Entries.{Site, RouteEntry}
use Rattle.simulator.specs.inside.Lines.{route_line}
use Rattle.simulator.proofs.Lines.{routes-add, routes-all}
use Rattle.simulator.proofs.picture.push_routes.Goals as goal

pub loop-place-preserved : goal.loop-place-preserved
loop-place-preserved c =
    let world = c.args.world.now
    in let site = world.sited.site
    in let place = c.loop-place.place
    in let route = c.index-routes-place.result
    in let old = string_bytes c.loop-place.text
    in let all : c.routes-routes.result.now ≡ site.routes = c.routes-routes.ensures ∙ ap (λ (p : Site). p.routes) (c.layout.ensures.entries ∙ c.table.ensures)
    in let within : place < length site.routes = subst (λ (l : List RouteEntry). place < length l) all c.loop-place-test.true
    in let at : route ≡ get_or site.routes place route = subst (λ (l : List RouteEntry). route ≡ get_or l place route) all c.index-routes-place.is
    in routes-add place site.routes world.run.interlocking.ixl.routes route c.is_set.result old (string_bytes c.push_route.new.text) _
    within at c.is_set.ensures (c.in_ok-push_route.ensures ∙ ap (λ (n : List ℕ). old ++ route_line n c.is_set.result) c.name.ensures) c.loop-place.invariant

pub returns : goal.returns
returns c =
    let world = c.args.world.now
    in let site = world.sited.site
    in let all : c.routes-routes.result.now ≡ site.routes = c.routes-routes.ensures ∙ ap (λ (p : Site). p.routes) (c.layout.ensures.entries ∙ c.table.ensures)
    in let past : length site.routes ≤ c.loop-place.place = subst (λ (l : List RouteEntry). length l ≤ c.loop-place.place) all c.loop-place-test.false
    in routes-all c.loop-place.place site.routes world.run.interlocking.ixl.routes (string_bytes c.loop-place.text) _ past c.loop-place.invariant
