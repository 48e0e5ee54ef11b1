use Rattle.std.proofs.Common.{◌≡◌, ◌∙◌, ◌<◌, ◌≤◌, ◌++◌, ap, sym, subst, List, get_or, length, string_bytes}
use Rattle.ixl_state.specs.layout.Entries.{Site}
use Rattle.ixl_state.specs.layout.declared.entries.Point.{Point}
use Rattle.simulator.specs.inside.Lines.{point_line}
use Rattle.simulator.proofs.Lines.{points-add, points-all}
use Rattle.simulator.proofs.picture.push_points.Goals as goal

pub loop-place-preserved : goal.loop-place-preserved
loop-place-preserved c =
    let world = c.args.world.now
    in let site = world.sited.site
    in let place = c.loop-place.place
    in let point = c.index-points-place.result
    in let all : c.points-points.result.now ≡ site.points = c.points-points.ensures ∙ ap (λ (p : Site). p.points) (c.layout.ensures.entries ∙ c.table.ensures)
    in let within : place < length site.points = subst (λ (l : List Point). place < length l) all c.loop-place-test.true
    in let at : point ≡ get_or site.points place point = subst (λ (l : List Point). point ≡ get_or l place point) all c.index-points-place.is
    in points-add place site.points world.run.positions world.run.points point c.position-position.result c.driven.result (string_bytes c.loop-place.text) (string_bytes c.push_point.new.text) _
    within c.requires at c.position-position.ensures c.driven.ensures
    (c.in_ok-push_point.ensures ∙ ap (λ (p : Point). string_bytes c.loop-place.text ++ point_line p.name c.position-position.result c.driven.result) (sym c.index-points-place.is)) c.loop-place.invariant

pub returns : goal.returns
returns c =
    let world = c.args.world.now
    in let site = world.sited.site
    in let all : c.points-points.result.now ≡ site.points = c.points-points.ensures ∙ ap (λ (p : Site). p.points) (c.layout.ensures.entries ∙ c.table.ensures)
    in let past : length site.points ≤ c.loop-place.place = subst (λ (l : List Point). length l ≤ c.loop-place.place) all c.loop-place-test.false
    in points-all c.loop-place.place site.points world.run.positions world.run.points (string_bytes c.loop-place.text) _ past c.loop-place.invariant
