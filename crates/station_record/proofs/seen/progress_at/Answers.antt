use Rattle.std.proofs.Common.{◌≡◌, ◌<◌, ◌∙◌, List, length, ap, subst}
use Rattle.std.specs.Prelude.{slice_get}
use Rattle.std.specs.Option.{option_map}
use Rattle.replay.specs.ixl_spec.State.{RouteState}
use Rattle.replay.specs.ixl_spec.Table.{Row}
use Rattle.replay.specs.ixl_table.Table.{SitedTable}
use Rattle.replay.specs.simulator.ixl_state.State.{StateView}
use Rattle.station_record.specs.Seen.{progress_of}
use Rattle.station_record.proofs.Ready.{progress_there}
use Rattle.station_record.proofs.seen.progress_at.Goals as goal

pub returns : goal.returns
returns c =
    let place = c.args.place
    in let state = c.interlocking-state.result.now
    in let rows : c.rows.result.now ≡ state.sited.table.rows = c.rows.ensures ∙ ap (λ (sited : SitedTable). sited.table.rows) c.table.ensures.sited
    in let below = subst (λ (rows : List Row). place < length rows) rows c.if-place-rows.false
    in progress_there state place c.route-route.result c.progress_of.result below c.table.ensures.each c.route-route.ensures (c.progress_of.ensures ∙ ap progress_of c.phase.ensures)
    ∙ ap (λ (view : StateView). option_map (λ (route : RouteState). progress_of route.phase) (slice_get view.ixl.routes place)) c.interlocking-state.ensures
