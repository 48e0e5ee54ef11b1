-- What is drawn, without where it lies: strokes, each by its shape and its class, and words.
use Rattle.std.specs.Prelude.{ℕ, List, [], ◌∷◌, ◌++◌, codes, string_bytes}
use Rattle.std.specs.List.{flat_map}
use Rattle.drawing.specs.declared.shape.Shape.{Shape}
use Rattle.drawing.specs.declared.shape.Shape.TheVariants.{Line, Polyline, Polygon, Circle, Rectangle, Text}
use Rattle.drawing.specs.declared.shape.Mark.{Mark}

-- a line, straight or with corners
unfoldable pub line : List ℕ → List ℕ
line class = codes "line " ++ class

unfoldable pub polygon : List ℕ → List ℕ
polygon class = codes "polygon " ++ class

unfoldable pub circle : List ℕ → List ℕ
circle class = codes "circle " ++ class

unfoldable pub rectangle : List ℕ → List ℕ
rectangle class = codes "rectangle " ++ class

-- the stroke of a shape of a class; a text is none
abbrev pub stroke_of : List ℕ → Shape → List (List ℕ)
stroke_of class (Line from to) = line class ∷ []
stroke_of class (Polyline spots) = line class ∷ []
stroke_of class (Polygon spots) = polygon class ∷ []
stroke_of class (Circle centre radius) = circle class ∷ []
stroke_of class (Rectangle corner width height) = rectangle class ∷ []
stroke_of class (Text at anchor words) = []

-- what a shape says
abbrev pub text_of : Shape → List ℕ
text_of (Line from to) = []
text_of (Polyline spots) = []
text_of (Polygon spots) = []
text_of (Circle centre radius) = []
text_of (Rectangle corner width height) = []
text_of (Text at anchor words) = string_bytes words

-- the strokes of marks, in order
abbrev pub strokes : List Mark → List (List ℕ)
strokes marks = flat_map (λ mark. stroke_of (string_bytes mark.class) mark.shape) marks

-- what the texts among marks say, one after the other
abbrev pub written : List Mark → List ℕ
written marks = flat_map (λ mark. text_of mark.shape) marks
