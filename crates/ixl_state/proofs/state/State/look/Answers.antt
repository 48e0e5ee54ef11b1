use Rattle.std.proofs.Common.{◌∙◌, ap}
use Rattle.ixl_spec.specs.State.{RouteState}
use Rattle.ixl_spec.specs.Step.{route_looks}
use Rattle.ixl_spec.specs.Table.{Row}
use Rattle.ixl_spec.specs.View.{place_in}
use Rattle.ixl_table.specs.Table.{SitedTable}
use Rattle.ixl_state.proofs.SectionLook.{looks-alike, looks-passage, place-within}
use Rattle.ixl_state.proofs.RouteChange.{alike-by, passage-by, row-read}
use Rattle.ixl_state.proofs.state.State.look.Goals as goal

pub looks-route-requires : goal.looks-route-requires
looks-route-requires c =
    let at = c.table.ensures.there c.args.number c.requires.there in
    let read = row-read c.rows.result.now c.args.self.now.sited.table.rows c.args.number at.0 c.index-rows-number.result (c.rows.ensures ∙ ap (λ (p : SitedTable). p.table.rows) c.table.ensures.sited) at.2.0 c.index-rows-number.is in
    place-within c.place_on-place.result c.args.section at.0.sections c.route.result.passage.sections (c.place_on-place.ensures ∙ ap (λ (r : Row). place_in c.args.section r.sections) read)
    (ap (λ (r : RouteState). r.passage.sections) (c.route.ensures at.0 at.1 at.2) ∙ (c.table.ensures.within c.args.number at.0 at.1 at.2).0)

pub keep-requires-clause-alike : goal.keep-requires-clause-alike
keep-requires-clause-alike c = λ row old at.
    let read = row-read c.rows.result.now c.args.self.now.sited.table.rows c.args.number row c.index-rows-number.result (c.rows.ensures ∙ ap (λ (p : SitedTable). p.table.rows) c.table.ensures.sited) at.0 c.index-rows-number.is in
    let place = c.place_on-place.ensures ∙ ap (λ (r : Row). place_in c.args.section r.sections) read in
    alike-by old c.looks-route.result (route_looks c.args.section c.args.occupied row) (c.looks-route.ensures c.args.section row place ∙ ap (route_looks c.args.section c.args.occupied row) (c.route.ensures row old at))
    (looks-alike c.args.section c.args.occupied row old)

pub keep-requires-clause-passage : goal.keep-requires-clause-passage
keep-requires-clause-passage c = λ row old at is.
    let read = row-read c.rows.result.now c.args.self.now.sited.table.rows c.args.number row c.index-rows-number.result (c.rows.ensures ∙ ap (λ (p : SitedTable). p.table.rows) c.table.ensures.sited) at.0 c.index-rows-number.is in
    let place = c.place_on-place.ensures ∙ ap (λ (r : Row). place_in c.args.section r.sections) read in
    passage-by row old c.looks-route.result (route_looks c.args.section c.args.occupied row) (c.looks-route.ensures c.args.section row place ∙ ap (route_looks c.args.section c.args.occupied row) (c.route.ensures row old at))
    (looks-passage c.args.section c.args.occupied row old is)

pub returns : goal.returns
returns c = λ row route at.
    let read = row-read c.rows.result.now c.args.self.now.sited.table.rows c.args.number row c.index-rows-number.result (c.rows.ensures ∙ ap (λ (p : SitedTable). p.table.rows) c.table.ensures.sited) at.0 c.index-rows-number.is in
    let place = c.place_on-place.ensures ∙ ap (λ (r : Row). place_in c.args.section r.sections) read in
    c.keep.ensures (route_looks c.args.section c.args.occupied row) (λ other old its. c.looks-route.ensures c.args.section row place ∙ ap (route_looks c.args.section c.args.occupied row) (c.route.ensures other old its))
