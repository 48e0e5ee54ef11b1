use Rattle.std.proofs.Common.{◌∙◌, ◌++◌, ap, append_assoc}
use Rattle.std.proofs.lemmas.Result.{on_ok_weaker}
use Rattle.std.specs.List.{flat_map}
use Rattle.station_plan.specs.Faces.{point_bands, track_bands}
use Rattle.station_plan.specs.Strokes.{strokes}
use Rattle.station_plan.proofs.section_marks.draw_section.Goals as goal

pub returns : goal.returns
returns c =
    let l = c.args.layout.now in
    let name = c.args.name.now in
    let start = strokes c.args.marks.now.marks.items in
    let before = strokes c.draw_tracks.new.marks.marks.items in
    let of_tracks = flat_map (track_bands l name) l.tracks in
    let of_points = flat_map (point_bands l name) l.points in
    let tracks = c.in_ok-draw_tracks.ensures.drawn ∙ ap (λ tracks. start ++ flat_map (track_bands l name) tracks) c.tracks.ensures in
    let points = ap (λ points. before ++ flat_map (point_bands l name) points) c.points.ensures in
    record {
      drawn = on_ok_weaker c.draw_points.result (λ more. more ∙ (points ∙ (ap (λ drawn. drawn ++ of_points) tracks ∙ append_assoc start of_tracks of_points))) c.draw_points.ensures.drawn;
      named = on_ok_weaker c.draw_points.result (λ same. same ∙ c.in_ok-draw_tracks.ensures.named) c.draw_points.ensures.named;
    }
