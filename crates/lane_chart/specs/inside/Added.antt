-- A group more.
use Rattle.std.specs.Prelude.{◌≡◌, ℕ, List, [], ◌∷◌, ◌++◌}
use Rattle.drawing.specs.declared.picture.Group.{Group}
use Rattle.lane_chart.specs.Chart.{faces}
use Rattle.lane_chart.specs.Faces.{Face}

-- a group of this identity is added
pub record AddsGroup (id : List ℕ) (before after : List Group) : Type 0 where
  pub face : Face
  pub is : face.id ≡ id
  pub added : faces after ≡ faces before ++ face ∷ []
