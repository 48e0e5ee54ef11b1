use Rattle.std.proofs.Common.{◌∷◌, [], ap}
use Rattle.std.proofs.lemmas.Result.{on_ok_weaker}
use Rattle.lane_chart.specs.Chart.{faces, happening_faces, row_faces}
use Rattle.lane_chart.proofs.Together.{together}
use Rattle.lane_chart.proofs.picture.add_groups.Goals as goal

pub returns : goal.returns
returns c =
    let axis = c.in_ok-add_axis.ensures
    in let scene = c.args.scene
    in on_ok_weaker c.add_legend.result (λ last. record {
      axis = axis.face;
      axis_is = axis.is;
      legend = last.face;
      legend_is = last.is;
      all = together [] axis.face (row_faces scene.nodes scene.window scene.happenings.now c.args.rows.now) (happening_faces scene.window scene.happenings.now) (last.face ∷ [])
          (faces c.args.groups.now.items) (faces c.add_axis.new.groups.items) (faces c.add_rows.new.groups.items) (faces c.add_happenings.new.groups.items) (faces c.add_legend.new.groups.items)
          (ap faces c.requires) axis.added c.in_ok-add_rows.ensures c.in_ok-add_happenings.ensures last.added;
    }) c.add_legend.ensures
