-- What is drawn, without how high it lies: lines and arrows, each by its class and where it lies in time, and names.
use Rattle.std.specs.Prelude.{ℕ, ◌+◌, min, ℤ, pos, List, [], ◌∷◌, codes, string_bytes, if◌then◌else◌}
use Rattle.std.specs.List.{flat_map}
use Rattle.std.specs.Str.{bytes_eq}
use Rattle.drawing.specs.declared.shape.Shape.{Shape}
use Rattle.drawing.specs.declared.shape.Shape.TheVariants.{Line, Polyline, Polygon, Circle, Rectangle, Text}
use Rattle.drawing.specs.declared.shape.Mark.{Mark}
use Rattle.drawing.specs.declared.shape.Spot.{Spot}

-- ---- where it lies

-- so many units after where the bands begin
abbrev pub on_paper : ℕ → ℤ
on_paper units = pos (190 + units)

-- a unit of the chart; what lies after the last one lies there
abbrev pub place_of : ℕ → ℤ
place_of unit = on_paper (min unit 1380)

-- ---- what is drawn

-- a line from one place to another, or an arrow, which points to one place
pub data Stroke : Type 0 where
  line : List ℕ → ℤ → ℤ → Stroke
  arrow : List ℕ → ℤ → Stroke

-- an arrow by its corners, of which the first is its tip
abbrev pub arrow_by : List ℕ → List Spot → List Stroke
arrow_by class [] = []
arrow_by class (tip ∷ corners) = arrow class tip.x ∷ []

abbrev pub stroke_of : List ℕ → Shape → List Stroke
stroke_of class (Line from to) = line class from.x to.x ∷ []
stroke_of class (Polyline spots) = []
stroke_of class (Polygon spots) = arrow_by class spots.items
stroke_of class (Circle centre radius) = []
stroke_of class (Rectangle corner width height) = []
stroke_of class (Text at anchor words) = []

-- the strokes of marks, in order
abbrev pub strokes : List Mark → List Stroke
strokes marks = flat_map (λ mark. stroke_of (string_bytes mark.class) mark.shape) marks

-- ---- what is written as a name

-- a text of the class `name`
abbrev pub name_if : List ℕ → List ℕ → List ℕ
name_if class words = if bytes_eq class (codes "name") then words else []

abbrev pub name_of : List ℕ → Shape → List ℕ
name_of class (Line from to) = []
name_of class (Polyline spots) = []
name_of class (Polygon spots) = []
name_of class (Circle centre radius) = []
name_of class (Rectangle corner width height) = []
name_of class (Text at anchor words) = name_if class (string_bytes words)

abbrev pub named : List Mark → List ℕ
named marks = flat_map (λ mark. name_of (string_bytes mark.class) mark.shape) marks
