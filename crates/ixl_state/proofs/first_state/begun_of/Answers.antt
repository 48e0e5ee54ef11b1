use Rattle.std.proofs.Common.{◌∙◌, ap, arith, length, map}
use Rattle.std.proofs.lemmas.List.{length-map}
use Rattle.ixl_spec.specs.layout.Entries.{Site}
use Rattle.ixl_known.specs.Field.{FieldState}
use Rattle.ixl_spec.specs.First.{Beginning, new_detector_of, new_known_signal_of, new_route_of, new_known_point_of}
use Rattle.ixl_state.proofs.Keys.{first-under}
use Rattle.ixl_state.proofs.Made.{first-ixl, first-locks, first-routes, rows-long}
use Rattle.ixl_state.proofs.first_state.begun_of.Goals as goal

pub routes_of-requires : goal.routes_of-requires
routes_of-requires c = rows-long c.args.table.now.site c.args.table.now.table c.rows.result.now c.checked-checked.ensures.there c.rows.ensures

pub new-field-requires-clause-sections : goal.new-field-requires-clause-sections
new-field-requires-clause-sections c =
    let same = ap length (c.in_ok-reporters.ensures.items ∙ c.reporters.ensures) in
    let each = c.checked-checked.ensures.table.reporters.each in
    let few = c.checked-checked.ensures.station.limits.sections in
    omega (arith, same, each, few)

pub returns-clause-whole : goal.returns-clause-whole
returns-clause-whole c =
    let sited = c.args.table.now in
    let begins : Beginning = record { clock = c.args.start.now; first = c.args.start.first_sequence_number } in
    let checked = c.checked-checked.ensures.site in
    let routes = c.in_ok-routes.ensures ∙ ap (map new_route_of) c.rows.ensures in
    record {
      field_is = record {
        reporters = ap (λ (f : FieldState). f.reporters) c.new-field.ensures ∙ c.in_ok-reporters.ensures.items ∙ c.reporters.ensures;
        known_signals = ap (λ (f : FieldState). length f.known_signals) c.new-field.ensures ∙ ap length (c.in_ok-known_signals.ensures ∙ ap (λ (p : Site). map (new_known_signal_of p begins) p.signals) checked) ∙ length-map sited.site.signals (new_known_signal_of sited.site begins);
        known_points = ap (λ (f : FieldState). length f.known_points) c.new-field.ensures ∙ ap length (c.in_ok-known_points.ensures ∙ ap (λ (p : Site). map (new_known_point_of p begins) p.points) checked) ∙ length-map sited.site.points (new_known_point_of sited.site begins);
        keys = first-under sited.site begins c.new-field.result
            (ap (λ (f : FieldState). f.known_signals) c.new-field.ensures ∙ c.in_ok-known_signals.ensures ∙ ap (λ (p : Site). map (new_known_signal_of p begins) p.signals) checked)
            (ap (λ (f : FieldState). f.known_points) c.new-field.ensures ∙ c.in_ok-known_points.ensures ∙ ap (λ (p : Site). map (new_known_point_of p begins) p.points) checked)
            (ap (λ (f : FieldState). f.detectors) c.new-field.ensures ∙ c.in_ok-detectors.ensures ∙ ap (λ (p : Site). map (new_detector_of p begins) p.detectors) checked);
        detectors = ap (λ (f : FieldState). length f.detectors) c.new-field.ensures ∙ ap length (c.in_ok-detectors.ensures ∙ ap (λ (p : Site). map (new_detector_of p begins) p.detectors) checked) ∙ length-map sited.site.detectors (new_detector_of sited.site begins);
      };
      routes_are = first-routes sited c.in_ok-routes.routes.items routes;
      locks_are = first-locks sited c.in_ok-routes.routes.items routes c.in_ok-locks.locks (c.in_ok-locks.ensures.table ∙ checked) c.in_ok-locks.ensures.free;
    }

pub returns-clause-ixl : goal.returns-clause-ixl
returns-clause-ixl c =
    let sited = c.args.table.now in
    let begins : Beginning = record { clock = c.args.start.now; first = c.args.start.first_sequence_number } in
    let checked = c.checked-checked.ensures.site in
    first-ixl sited.site sited.table begins c.new-field.result c.in_ok-routes.routes.items
    (ap (λ (f : FieldState). f.known_signals) c.new-field.ensures ∙ c.in_ok-known_signals.ensures ∙ ap (λ (p : Site). map (new_known_signal_of p begins) p.signals) checked)
    (ap (λ (f : FieldState). f.known_points) c.new-field.ensures ∙ c.in_ok-known_points.ensures ∙ ap (λ (p : Site). map (new_known_point_of p begins) p.points) checked)
    (ap (λ (f : FieldState). f.detectors) c.new-field.ensures ∙ c.in_ok-detectors.ensures ∙ ap (λ (p : Site). map (new_detector_of p begins) p.detectors) checked)
    (c.in_ok-routes.ensures ∙ ap (map new_route_of) c.rows.ensures)
