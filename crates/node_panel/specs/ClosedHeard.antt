-- What a node has told of what is closed, and what is shown of it.
use Rattle.std.specs.Prelude.{ℕ, suc, nat_lt, Bool, false, if◌then◌else◌, List, [], ◌∷◌, ◌++◌, length, replicate, slice_set}
use Rattle.panel_desk.specs.declared.panel_line.PanelLine.{PanelLine}
use Rattle.panel_desk.specs.declared.panel_line.PanelLine.TheVariants.{Closed}
use Rattle.panel_desk.specs.node_lines.closings.declared.thing.Thing.{Thing}
use Rattle.panel_desk.specs.node_lines.closings.declared.thing.Thing.TheVariants.{Section, Point, Signal, Route}
use Rattle.panel_desk.specs.node_lines.layout.Entries.{Site}
use Rattle.panel_desk.specs.node_lines.sci_telegram.declared.message.Side.{Side}
use Rattle.panel_desk.specs.node_lines.sci_telegram.declared.message.Side.TheVariants.{Left, Right}

-- of each thing, whether it is closed, by what was told last
pub record ClosedView : Type 0 where
  pub sections : List Bool
  -- of each point, whether it is closed at the left, and at the right
  pub left : List Bool
  pub right : List Bool
  pub signals : List Bool
  pub routes : List Bool

-- a value is put at a place; nothing is where there is no such place
abbrev pub put_at : {A : Type 0} → ℕ → A → List A → List A
put_at place value all = if nat_lt place (length all) then slice_set all place value else all

-- a line of each thing in a list, by its place, from one on
abbrev pub each : {A : Type 0} → (ℕ → A → PanelLine) → ℕ → List A → List PanelLine
each of place [] = []
each of place (one ∷ more) = of place one ∷ each of (suc place) more

abbrev pub nothing_closed : Site → ClosedView
nothing_closed site = record {
  sections = replicate (length site.sections) false;
  left = replicate (length site.points) false;
  right = replicate (length site.points) false;
  signals = replicate (length site.signals) false;
  routes = replicate (length site.routes) false;
}

abbrev pub all_open : ClosedView → ClosedView
all_open closed = record {
  sections = replicate (length closed.sections) false;
  left = replicate (length closed.left) false;
  right = replicate (length closed.right) false;
  signals = replicate (length closed.signals) false;
  routes = replicate (length closed.routes) false;
}

-- a thing is told as closed, or as open
abbrev pub put_closing : Thing → Bool → ClosedView → ClosedView
put_closing (Section section) is_closed closed = record closed { sections = put_at section.0 is_closed closed.sections }
put_closing (Point point Left) is_closed closed = record closed { left = put_at point.0 is_closed closed.left }
put_closing (Point point Right) is_closed closed = record closed { right = put_at point.0 is_closed closed.right }
put_closing (Signal signal) is_closed closed = record closed { signals = put_at signal.0 is_closed closed.signals }
put_closing (Route route) is_closed closed = record closed { routes = put_at route.0 is_closed closed.routes }

-- ---- what is shown

abbrev pub section_line : ℕ → Bool → PanelLine
section_line place is_closed = Closed (Section (record { 0 = place })) is_closed

abbrev pub point_line : Side → ℕ → Bool → PanelLine
point_line side place is_closed = Closed (Point (record { 0 = place }) side) is_closed

abbrev pub signal_line : ℕ → Bool → PanelLine
signal_line place is_closed = Closed (Signal (record { 0 = place })) is_closed

abbrev pub route_line : ℕ → Bool → PanelLine
route_line place is_closed = Closed (Route (record { 0 = place })) is_closed

-- a line of each thing
abbrev pub closed_lines : ClosedView → List PanelLine
closed_lines closed =
    each section_line 0 closed.sections ++ (each (point_line Left) 0 closed.left ++ (each (point_line Right) 0 closed.right
    ++ (each signal_line 0 closed.signals ++ each route_line 0 closed.routes)))
