use Rattle.std.proofs.Common.{◌∙◌, ap, sym}
use Rattle.ixl_state.specs.ixl_spec.State.{RouteState}
use Rattle.ixl_state.specs.ixl_spec.View.{has_authority}
use Rattle.ixl.proofs.Looks.{route_not_watched, route_watched, route_watched_clear}
use Rattle.ixl.proofs.approaches_seen.watch_by.Goals.{else-has_authority-via-then-has_authority+else-not-is_approach_clear, else-has_authority-via-else-has_authority}
use Rattle.ixl.proofs.approaches_seen.watch_by.Goals as goal

pub returns-then-not-is_approach_clear : goal.returns-then-not-is_approach_clear
returns-then-not-is_approach_clear c =
    let there = c.keeps_route.ensures.kept
    in route_watched c.args.now c.args.number _ c.args.state.now c.watch.new.self there.0 there.1 c.requires.clock there.2
    (ap (λ (r : RouteState). has_authority r.phase) (sym (c.route.ensures there.0 there.1 there.2)) ∙ sym c.has_authority.ensures ∙ c.if-has_authority.true)
    (sym c.if-not-is_approach_clear.true ∙ c.is_approach_clear.ensures there.0 there.1 there.2) c.watch.ensures

pub returns-else-has_authority : goal.returns-else-has_authority
returns-else-has_authority c =
    let there = c.keeps_route.ensures.kept
    in elim c.else-has_authority.branch [
      | else-has_authority-via-then-has_authority+else-not-is_approach_clear w ↦ route_watched_clear c.args.now c.args.number c.args.state.now there.0 there.1 c.requires.clock there.2
          (ap (λ (r : RouteState). has_authority r.phase) (sym (c.route.ensures there.0 there.1 there.2)) ∙ sym c.has_authority.ensures ∙ w.if-has_authority.true)
          (sym w.if-not-is_approach_clear.false ∙ w.is_approach_clear.ensures there.0 there.1 there.2)
      | else-has_authority-via-else-has_authority w ↦ route_not_watched c.args.now c.args.number c.args.state.now there.0 there.1 c.requires.clock there.2
          (ap (λ (r : RouteState). has_authority r.phase) (sym (c.route.ensures there.0 there.1 there.2)) ∙ sym c.has_authority.ensures ∙ w.if-has_authority.false)
    ]
