-- The one spelling of a picture as SVG text.
use Rattle.std.specs.Prelude.{ℕ, ℤ, List, [], ◌∷◌, ◌++◌, codes, string_bytes}
use Rattle.std.specs.List.{flat_map}
use Rattle.std.specs.Fmt.{decimal, signed_decimal}
use Rattle.drawing.specs.Escaped.{escaped}
use Rattle.drawing.specs.declared.shape.Spot.{Spot}
use Rattle.drawing.specs.declared.shape.Anchor.{Anchor}
use Rattle.drawing.specs.declared.shape.Anchor.TheVariants.{Start, Middle, End}
use Rattle.drawing.specs.declared.shape.Shape.{Shape}
use Rattle.drawing.specs.declared.shape.Shape.TheVariants.{Line, Polyline, Polygon, Circle, Rectangle, Text}
use Rattle.drawing.specs.declared.shape.Mark.{Mark}
use Rattle.drawing.specs.declared.picture.Frame.{Frame}
use Rattle.drawing.specs.declared.picture.Strip.{Strip}
use Rattle.drawing.specs.declared.picture.Group.{Group}
use Rattle.drawing.specs.declared.picture.Picture.{Picture}

-- ---- a shape

-- a spot among others
abbrev pub spot_text : Spot → List ℕ
spot_text s = codes " " ++ (signed_decimal s.x ++ (codes "," ++ signed_decimal s.y))

abbrev pub spots_text : List Spot → List ℕ
spots_text spots = flat_map spot_text spots

-- how the text of a shape begins
abbrev pub shape_opening : Shape → List ℕ
shape_opening (Line from to) = codes "<line class=\""
shape_opening (Polyline spots) = codes "<polyline class=\""
shape_opening (Polygon spots) = codes "<polygon class=\""
shape_opening (Circle centre radius) = codes "<circle class=\""
shape_opening (Rectangle corner width height) = codes "<rect class=\""
shape_opening (Text at anchor words) = codes "<text class=\""

-- what stands behind its class
abbrev pub line_rest : Spot → Spot → List ℕ
line_rest from to =
    codes "\" x1=\"" ++ (signed_decimal from.x ++ (codes "\" y1=\"" ++ (signed_decimal from.y
    ++ (codes "\" x2=\"" ++ (signed_decimal to.x ++ (codes "\" y2=\"" ++ (signed_decimal to.y ++ codes "\"/>\n")))))))

abbrev pub points_rest : List Spot → List ℕ
points_rest spots = codes "\" points=\"" ++ (spots_text spots ++ codes "\"/>\n")

abbrev pub circle_rest : Spot → ℕ → List ℕ
circle_rest centre radius =
    codes "\" cx=\"" ++ (signed_decimal centre.x ++ (codes "\" cy=\"" ++ (signed_decimal centre.y
    ++ (codes "\" r=\"" ++ (decimal radius ++ codes "\"/>\n")))))

abbrev pub rectangle_rest : Spot → ℕ → ℕ → List ℕ
rectangle_rest corner width height =
    codes "\" x=\"" ++ (signed_decimal corner.x ++ (codes "\" y=\"" ++ (signed_decimal corner.y
    ++ (codes "\" width=\"" ++ (decimal width ++ (codes "\" height=\"" ++ (decimal height ++ codes "\"/>\n")))))))

-- where a text stands
unfoldable pub standing_text : Spot → List ℕ
standing_text at = codes "\" x=\"" ++ (signed_decimal at.x ++ (codes "\" y=\"" ++ signed_decimal at.y))

unfoldable pub anchored_text : Anchor → List ℕ
anchored_text Start = codes "\" text-anchor=\"start\">"
anchored_text Middle = codes "\" text-anchor=\"middle\">"
anchored_text End = codes "\" text-anchor=\"end\">"

unfoldable pub text_rest : Spot → Anchor → List ℕ
text_rest at anchor = standing_text at ++ anchored_text anchor

abbrev pub words_rest : Spot → Anchor → List ℕ → List ℕ
words_rest at anchor words = text_rest at anchor ++ (escaped words ++ codes "</text>\n")

abbrev pub shape_rest : Shape → List ℕ
shape_rest (Line from to) = line_rest from to
shape_rest (Polyline spots) = points_rest spots.items
shape_rest (Polygon spots) = points_rest spots.items
shape_rest (Circle centre radius) = circle_rest centre radius
shape_rest (Rectangle corner width height) = rectangle_rest corner width height
shape_rest (Text at anchor words) = words_rest at anchor (string_bytes words)

-- a shape with its class
abbrev pub mark_text : Mark → List ℕ
mark_text m = shape_opening m.shape ++ (escaped (string_bytes m.class) ++ shape_rest m.shape)

abbrev pub marks_text : List Mark → List ℕ
marks_text marks = flat_map mark_text marks

-- ---- a group

unfoldable pub identity_text : Group → List ℕ
identity_text g = codes "<g id=\"" ++ (escaped (string_bytes g.id) ++ codes "\" class=\"")

unfoldable pub class_text : Group → List ℕ
class_text g = escaped (string_bytes g.class) ++ codes "\"><title>"

unfoldable pub title_text : Group → List ℕ
title_text g = escaped (string_bytes g.title) ++ codes "</title>\n"

abbrev pub group_text : Group → List ℕ
group_text g = identity_text g ++ (class_text g ++ (title_text g ++ (marks_text g.marks.items ++ codes "</g>\n")))

abbrev pub groups_text : List Group → List ℕ
groups_text groups = flat_map group_text groups

-- ---- a picture

-- a part of a plane, as a view
unfoldable pub view_text : Frame → List ℕ
view_text p =
    signed_decimal p.left ++ (codes " " ++ (signed_decimal p.top ++ (codes " " ++ (decimal p.width ++ (codes " " ++ decimal p.height)))))

-- the same as where something lies, and how large it is
unfoldable pub place_text : Frame → List ℕ
place_text p = codes " x=\"" ++ (signed_decimal p.left ++ (codes "\" y=\"" ++ (signed_decimal p.top ++ codes "\"")))

unfoldable pub size_text : Frame → List ℕ
size_text p = codes " width=\"" ++ (decimal p.width ++ (codes "\" height=\"" ++ (decimal p.height ++ codes "\"")))

-- the paper, and its ground
unfoldable pub beginning_text : List ℕ
beginning_text = codes "<svg xmlns=\"http://www.w3.org/2000/svg\""

unfoldable pub viewed_text : Frame → List ℕ
viewed_text p = codes " viewBox=\"" ++ (view_text p ++ codes "\">\n")

unfoldable pub sheet_text : Frame → List ℕ
sheet_text p = beginning_text ++ (size_text p ++ viewed_text p)

unfoldable pub ground_text : Frame → List ℕ
ground_text p = codes "<rect" ++ (place_text p ++ (size_text p ++ codes " fill=\"#fff\"/>\n"))

unfoldable pub named_text : Picture → List ℕ
named_text p = codes "<title>" ++ (escaped (string_bytes p.title) ++ codes "</title>\n")

unfoldable pub styled_text : Picture → List ℕ
styled_text p = codes "<style>" ++ (escaped (string_bytes p.style) ++ codes "</style>\n")

abbrev pub head_text : Picture → List ℕ
head_text p = sheet_text p.paper ++ (ground_text p.paper ++ (named_text p ++ styled_text p))

-- Where there are strips, the groups are drawn once, and each strip uses them.
abbrev pub opening_text : List Strip → List ℕ
opening_text [] = []
opening_text (strip ∷ strips) = codes "<defs><g id=\"drawn\">\n"

abbrev pub closing_text : List Strip → List ℕ
closing_text [] = []
closing_text (strip ∷ strips) = codes "</g></defs>\n"

unfoldable pub window_text : Strip → List ℕ
window_text s = codes "<svg" ++ (place_text s.at ++ (size_text s.at ++ codes " viewBox=\""))

unfoldable pub use_text : List ℕ
use_text = codes "\"><use href=\"#drawn\"/></svg>\n"

unfoldable pub strip_text : Strip → List ℕ
strip_text s = window_text s ++ (view_text s.shows ++ use_text)

abbrev pub strips_text : List Strip → List ℕ
strips_text strips = flat_map strip_text strips

abbrev pub svg_text : Picture → List ℕ
svg_text p =
    head_text p ++ (opening_text p.strips.items ++ (groups_text p.groups.items
    ++ (closing_text p.strips.items ++ (strips_text p.strips.items ++ codes "</svg>\n"))))
