-- Which ports are joined, and what stands there.
use Rattle.std.specs.Prelude.{ℕ, ◌==◌, ◌||◌, Bool, true, false, not, List, Option, Some, None, if◌then◌else◌}
use Rattle.std.specs.List.{position}
use Rattle.layout_text.specs.declared.entries.End.{End}
use Rattle.layout_text.specs.declared.entries.End.TheVariants as end
use Rattle.control_table.specs.layout.declared.entries.Joint.{Joint}
use Rattle.control_table.specs.layout.declared.entries.Signal.{Signal}
use Rattle.control_table.specs.layout.declared.port.Port.{Port}
use Rattle.control_table.specs.layout.declared.port.Element.{Element}
use Rattle.control_table.specs.layout.declared.port.Element.TheVariants as element
use Rattle.control_table.specs.layout.Known.{end_number, same_element, same_port}
use Rattle.station_layout.specs.Search.{first_of}

abbrev pub same_end : End → End → Bool
same_end a b = end_number a == end_number b

-- the other port of a joint, if this port stands in it
abbrev pub other_port : Joint → Port → Option Port
other_port joint p = if same_port joint.first p then Some joint.second else if same_port joint.second p then Some joint.first else None

-- the port to which a port is joined by the first joint in which it stands
unfoldable pub joined_to : List Joint → Port → Option Port
joined_to joints p = first_of (λ joint. other_port joint p) joints

abbrev pub is_tip : End → Bool
is_tip end.Tip = true
is_tip _ = false

-- through a point one of two ends is the tip
abbrev pub leads_through : Element → End → End → Bool
leads_through (element.Point p) entered out = is_tip entered || is_tip out
leads_through _ entered out = true

-- A train passes from one port to another: both are of one element, and through a point one of them is the tip.
unfoldable pub may_pass : Port → Port → Bool
may_pass entered left =
    if not (same_element entered.element left.element) || same_port entered left then false
    else leads_through entered.element entered.end left.end

-- the place of the signal that stands at a port
unfoldable pub signal_at : List Signal → Port → Option ℕ
signal_at signals p = position (λ s. same_port s.at p) signals
