use Rattle.std.proofs.Common.{◌≡◌, ap, subst, length, arith, Some}
use Rattle.std.specs.Prelude.{slice_get}
use Rattle.std.specs.Option.{option_map}
use Rattle.ixl_state.specs.ixl_spec.State.{RouteState}
use Rattle.ixl_state.specs.ixl_spec.View.{is_set}
use Rattle.ixl_state.specs.ixl_table.Table.{SitedTable}
use Rattle.simulator_field.specs.Field.{world_of}
use Rattle.simulator.specs.World.{View}
use Rattle.simulator.proofs.Runs.{set_read}
use Rattle.simulator.proofs.world.World.is_set.Goals as goal

pub is_set-requires : goal.is_set-requires
is_set-requires c =
    let Each : SitedTable → Type 0 = λ p. length p.table.rows ≡ length p.site.routes
    in let each : Each c.self.inside.parts.interlocking.sited = subst Each c.table.ensures.sited c.checked.ensures.table.rows.each
    in let routes : length c.self.inside.parts.interlocking.sited.site.routes ≡ length c.args.self.now.sited.site.routes = ap (λ (v : View). length v.sited.site.routes) c.self.view_is
    in omega (arith, c.requires, each, routes)

pub returns : goal.returns
unfolding world_of
returns c =
    let Each : SitedTable → Type 0 = λ p. length p.table.rows ≡ length p.site.routes
    in let each : Each c.self.inside.parts.interlocking.sited = subst Each c.table.ensures.sited c.checked.ensures.table.rows.each
    in let routes : length c.self.inside.parts.interlocking.sited.site.routes ≡ length c.args.self.now.sited.site.routes = ap (λ (v : View). length v.sited.site.routes) c.self.view_is
    in let Read : View → Type 0 = λ v. option_map (λ (kept : RouteState). is_set kept.phase) (slice_get v.run.interlocking.ixl.routes c.args.route.0) ≡ Some c.is_set.result
    in subst Read c.self.view_is (set_read c.self.inside.parts.interlocking.sited c.self.inside.parts.interlocking.interlocking.ixl c.args.route.0 c.is_set.result (omega (arith, c.requires, each, routes)) c.table.ensures.each c.is_set.ensures)
