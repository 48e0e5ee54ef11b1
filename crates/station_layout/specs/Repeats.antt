-- What comes twice on a path: the first element that does, or the first section to which the path comes back.
use Rattle.std.specs.Prelude.{◌==◌, ◌&&◌, ◌||◌, Bool, true, false, not, List, [], ◌∷◌, Option, None, slice_get, option_and_then, if◌then◌else◌}
use Rattle.std.specs.Option.{option_map, option_or}
use Rattle.control_table.specs.layout.declared.ids.SectionId.{SectionId}
use Rattle.control_table.specs.layout.declared.port.Port.{Port}
use Rattle.control_table.specs.layout.declared.port.Element.{Element}
use Rattle.control_table.specs.layout.Entries.{RouteEntry, Site}
use Rattle.control_table.specs.layout.Known.{same_element}
use Rattle.control_table.specs.Topology.{section_of}
use Rattle.station_layout.specs.LayoutNames.{element_name}
use Rattle.station_layout.specs.Places.{some_and}
use Rattle.station_layout.specs.Search.{first_of}
use Rattle.station_layout.specs.declared.detail.PathDetail.{PathDetail}
use Rattle.station_layout.specs.declared.detail.PathDetail.TheVariants.{ComesBack, Twice}

-- An element comes twice on a path, or once where it was there before.
unfoldable pub comes_twice : Element → Bool → List Port → Bool
comes_twice e was_there [] = false
comes_twice e was_there (left ∷ path) =
    if same_element left.element e && was_there then true else comes_twice e (same_element left.element e || was_there) path

module _ (l : Site) where
  unfoldable pub twice_at : List Port → Port → Option PathDetail
  twice_at path left = if not (comes_twice left.element false path) then None else option_map Twice (element_name l left.element)

  unfoldable pub lies_in : SectionId → Element → Bool
  lies_in s e = some_and (λ other. other.0 == s.0) (section_of l e)

  -- a path comes to a section that it left, or leaves now, if it was there at the element before
  unfoldable pub comes_back : SectionId → Bool → Bool → List Port → Bool
  comes_back s is_there has_left [] = false
  comes_back s is_there has_left (left ∷ path) =
      if lies_in s left.element && has_left then true
      else comes_back s (lies_in s left.element) (has_left || (is_there && not (lies_in s left.element))) path

  abbrev pub back_to : List Port → SectionId → Option PathDetail
  back_to path s = if not (comes_back s false false path) then None else option_map ComesBack (slice_get l.sections s.0)

  unfoldable pub back_at : List Port → Port → Option PathDetail
  back_at path left = option_and_then (back_to path) (section_of l left.element)

  unfoldable pub repeated_detail : RouteEntry → Option PathDetail
  repeated_detail r = option_or (first_of (twice_at r.path) r.path) (first_of (back_at r.path) r.path)
