-- Routes as entries of a layout's text.
use Rattle.std.specs.Prelude.{ℕ, List, [], ◌∷◌, ◌++◌, codes, map}
use Rattle.std.specs.List.{flat_map}
use Rattle.route_derivation.specs.control_table.sci_telegram.declared.message.Aspect.{Aspect}
use Rattle.route_derivation.specs.control_table.sci_telegram.declared.message.Aspect.TheVariants as aspect
use Rattle.route_derivation.specs.control_table.sci_telegram.declared.message.Side.{Side}
use Rattle.route_derivation.specs.control_table.layout.declared.ids.PointId.{PointId}
use Rattle.route_derivation.specs.control_table.layout.declared.ids.SectionId.{SectionId}
use Rattle.route_derivation.specs.control_table.layout.declared.port.Port.{Port}
use Rattle.route_derivation.specs.control_table.layout.Entries.{RouteEntry, Site}
use Rattle.table_review.specs.Names.{exit_name, point_name, port_text, section_name, side_word, signal_name}
use Rattle.table_review.specs.declared.block.Form.{Form}
use Rattle.table_review.specs.declared.block.Form.TheVariants as form
use Rattle.table_review.specs.declared.block.Item.{Item}
use Rattle.table_review.specs.declared.block.Item.TheVariants as item

-- what stands before the first key, between two keys, and after the last: in a block, and in an item of an array
abbrev pub opening : Form → List ℕ
opening form.Block = codes "\n[[route]]\n"
opening form.Item = codes "  { "

abbrev pub between : Form → List ℕ
between form.Block = codes "\n"
between form.Item = codes ", "

abbrev pub closing : Form → List ℕ
closing form.Block = codes "\n"
closing form.Item = codes " },\n"

-- ---- lists

abbrev pub quoted : List ℕ → List ℕ
quoted name = codes "\"" ++ (name ++ codes "\"")

-- at which side a point lies
abbrev pub side_text : Site → PointId → Side → List ℕ
side_text l p s = point_name l p ++ (codes " = \"" ++ (side_word s ++ codes "\""))

abbrev pub item_text : Site → Item → List ℕ
item_text l (item.Port p) = quoted (port_text l p)
item_text l (item.Point p s) = side_text l p s
item_text l (item.Section c) = quoted (section_name l c)

-- with a comma between each two
abbrev pub further_text : Site → Item → List ℕ
further_text l i = codes ", " ++ item_text l i

abbrev pub items_text : Site → List Item → List ℕ
items_text l [] = []
items_text l (i ∷ is) = item_text l i ++ flat_map (further_text l) is

abbrev pub list_text : Site → List ℕ → List Item → List ℕ → List ℕ
list_text l before is after = before ++ (items_text l is ++ after)

-- a key with a list is left out where that is empty
abbrev pub optional_text : Site → Form → List ℕ → List Item → List ℕ → List ℕ
optional_text l f before [] after = []
optional_text l f before (i ∷ is) after = between f ++ list_text l before (i ∷ is) after

unfoldable pub port_items : List Port → List Item
port_items ps = map (λ p. item.Port p) ps

unfoldable pub point_items : List (PointId × Side) → List Item
point_items ns = map (λ n. item.Point n.0 n.1) ns

unfoldable pub section_items : List SectionId → List Item
section_items cs = map (λ c. item.Section c) cs

-- ---- a route

abbrev pub name_key : RouteEntry → List ℕ
name_key r = codes "name = \"" ++ (r.name ++ codes "\"")

abbrev pub entry_key : Site → RouteEntry → List ℕ
entry_key l r = codes "entry = \"" ++ (signal_name l r.entry ++ codes "\"")

abbrev pub exit_key : Site → RouteEntry → List ℕ
exit_key l r = codes "exit = \"" ++ (exit_name l r.exit ++ codes "\"")

abbrev pub head_text : Form → Site → RouteEntry → List ℕ
head_text f l r = opening f ++ (name_key r ++ (between f ++ entry_key l r))

abbrev pub way_text : Form → Site → RouteEntry → List ℕ
way_text f l r = between f ++ (exit_key l r ++ (between f ++ list_text l (codes "path = [") (port_items r.path) (codes "]")))

-- the key has to be there, also where no point is required
abbrev pub points_text : Site → Form → List ℕ → List Item → List ℕ → List ℕ
points_text l f before [] after = between f ++ codes "points = {}"
points_text l f before (i ∷ is) after = between f ++ list_text l before (i ∷ is) after

abbrev pub needs_text : Form → Site → RouteEntry → List ℕ
needs_text f l r =
    points_text l f (codes "points = { ") (point_items r.points) (codes " }")
    ++ (optional_text l f (codes "flank = { ") (point_items r.flank) (codes " }")
    ++ optional_text l f (codes "approach = [") (section_items r.approach) (codes "]"))

-- only a slow aspect is written
abbrev pub aspect_text : Form → Aspect → List ℕ
aspect_text f aspect.Slow = between f ++ codes "aspect = \"slow\""
aspect_text f _ = []

abbrev pub route_text : Form → Site → RouteEntry → List ℕ
route_text f l r = head_text f l r ++ (way_text f l r ++ (needs_text f l r ++ (aspect_text f r.aspect ++ closing f)))
