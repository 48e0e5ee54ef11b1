-- What the picture of a chart is.
use Rattle.std.specs.Prelude.{◌≡◌, ℕ, List, [], ◌∷◌, ◌++◌, codes, map}
use Rattle.control_table.specs.layout.Entries.{Site}
use Rattle.drawing.specs.declared.picture.Group.{Group}
use Rattle.drawing.specs.declared.picture.Picture.{Picture}
use Rattle.lane_chart.specs.declared.change.Happening.{Happening}
use Rattle.lane_chart.specs.declared.drawn.DrawnRow.{DrawnRow}
use Rattle.lane_chart.specs.declared.scale.Window.{Window}
use Rattle.lane_chart.specs.declared.scene.Nodes.{Nodes}
use Rattle.lane_chart.specs.Faces.{Face, face_of, happening_face, nodes_of, row_face}

abbrev pub faces : List Group → List Face
faces groups = map face_of groups

abbrev pub row_faces : Nodes → Window → List Happening → List DrawnRow → List Face
row_faces nodes window happenings rows = map (row_face nodes window happenings) rows

abbrev pub happening_faces : Window → List Happening → List Face
happening_faces window happenings = map (happening_face window) happenings

-- the axis, and what the marks mean
abbrev pub axis_id : List ℕ
axis_id = codes "axis"

abbrev pub legend_id : List ℕ
legend_id = codes "legend"

-- Groups are those of a chart of these rows over this part of time: one for its axis, one for each row, each once, in order,
-- one for each command and restart, each once, in order, and a last one for what the marks mean.
pub record AreChartGroups (nodes : Nodes) (window : Window) (rows : List DrawnRow) (happenings : List Happening) (groups : List Group) : Type 0 where
  pub axis : Face
  pub axis_is : axis.id ≡ axis_id
  pub legend : Face
  pub legend_is : legend.id ≡ legend_id
  pub all : faces groups ≡ axis ∷ row_faces nodes window happenings rows ++ (happening_faces window happenings ++ legend ∷ [])

-- A picture is such a chart: it has these groups and no other.
abbrev pub IsChartOf : Site → Window → List DrawnRow → List Happening → Picture → Type 0
IsChartOf l window rows happenings picture = AreChartGroups (nodes_of l) window rows happenings picture.groups.items
