-- What is wrong with a route, by the names of its layout: the first thing that fails the test of its fault.
use Rattle.std.specs.Prelude.{ℕ, ◌==◌, ◌-◌, ◌||◌, Bool, false, not, List, length, Option, Some, None, is_some, slice_get, option_and_then, if◌then◌else◌}
use Rattle.std.specs.List.{list_any}
use Rattle.std.specs.Option.{option_map, unwrap_or}
use Rattle.layout_text.specs.declared.entries.PortName.{PortName}
use Rattle.control_table.specs.layout.declared.ids.RouteId.{RouteId}
use Rattle.control_table.specs.layout.declared.port.Port.{Port}
use Rattle.control_table.specs.layout.declared.port.Element.{Element}
use Rattle.control_table.specs.layout.declared.port.Element.TheVariants as element
use Rattle.control_table.specs.layout.declared.entries.Exit.{Exit}
use Rattle.control_table.specs.layout.declared.entries.Exit.TheVariants as exit
use Rattle.control_table.specs.layout.Entries.{RouteEntry, Site}
use Rattle.control_table.specs.layout.Known.{same_element, same_port}
use Rattle.control_table.specs.declared.fault.FaultyRoute.{FaultyRoute}
use Rattle.control_table.specs.declared.fault.TableFault.{TableFault}
use Rattle.control_table.specs.declared.fault.TableFault.TheVariants as fault
use Rattle.station_layout.specs.FaultWords.{route_at_fault}
use Rattle.station_layout.specs.Joints.{joined_to, may_pass, signal_at}
use Rattle.station_layout.specs.LayoutNames.{exit_name, leg_names, point_name, port_name, route_name, signal_name}
use Rattle.station_layout.specs.Places.{some_and}
use Rattle.station_layout.specs.Repeats.{repeated_detail}
use Rattle.station_layout.specs.RouteSides.{guard, unused_leg}
use Rattle.station_layout.specs.RouteStart.{is_written, start_of}
use Rattle.station_layout.specs.Search.{first_of, first_step}
use Rattle.station_layout.specs.SideDetails.{contrary_detail, lacking_at, lacking_detail, wrong_detail}
use Rattle.station_layout.specs.declared.advice.Advice.{Advice}
use Rattle.station_layout.specs.declared.advice.Advice.TheVariants as advised
use Rattle.station_layout.specs.declared.detail.PathDetail.{PathDetail}
use Rattle.station_layout.specs.declared.detail.PathDetail.TheVariants.{Empty, DeadEnd, Astray, OpenLeg, EndsElsewhere, EndsAtEntry, InTheWay}
use Rattle.station_layout.specs.declared.detail.RouteAdvice.{RouteAdvice}
use Rattle.station_layout.specs.declared.detail.RouteDetail.{RouteDetail}
use Rattle.station_layout.specs.declared.detail.RouteDetail.TheVariants.{Path, Points, Unanswered, Unwritten, WithItself}

-- a route stands in a list of extra conflicts
unfoldable pub is_listed : List RouteId → RouteId → Bool
is_listed extra b = list_any (λ listed. listed.0 == b.0) extra

-- an exit is the signal of this place
unfoldable pub is_signal : Exit → ℕ → Bool
is_signal (exit.Signal s) n = s.0 == n
is_signal (exit.Border b) n = false

module _ (l : Site) where
  -- ---- the joint where a path breaks

  -- a port by which no train leaves that comes from another over a joint
  abbrev pub astray : Port → PortName × PortName → Option PathDetail
  astray left names = option_map (λ x. Astray names.0 names.1 x) (port_name l left)

  abbrev pub break_behind : Port → Port → Option Port → Option PathDetail
  break_behind before left None = option_map DeadEnd (port_name l before)
  break_behind before left (Some entered) = if may_pass entered left then None else option_and_then (astray left) (leg_names l before entered)

  unfoldable pub break_at : Port → Port → Option PathDetail
  break_at before left = break_behind before left (joined_to l.joints before)

  unfoldable pub broken_detail : RouteEntry → Option PathDetail
  broken_detail r =
      if length r.path == 0 then Some Empty
      else option_and_then (λ start. first_step (λ before left. break_at before left) start r.path) (start_of l r)

  -- ---- the point of a path that isn't written

  abbrev pub unwritten_point : RouteEntry → Element → Option RouteDetail
  unwritten_point r (element.Point p) = if is_written r.points p then None else option_map Unwritten (point_name l p)
  unwritten_point r _ = None

  unfoldable pub unwritten_at : RouteEntry → Port → Option RouteDetail
  unwritten_at r left = unwritten_point r left.element

  -- ---- the leg that is open

  -- Something comes to a leg past no signal, and from no leg of another point.
  abbrev pub open_from : Port × Port → Option PathDetail
  open_from unused =
      if is_some (guard unused.0 unused.1) || is_some (signal_at l.signals unused.1) then None
      else option_map (λ names. OpenLeg names.0 names.1) (leg_names l unused.0 unused.1)

  unfoldable pub open_at : Port → Port → Option PathDetail
  open_at before left = option_and_then open_from (unused_leg l before left)

  unfoldable pub open_detail : RouteEntry → Option PathDetail
  open_detail r = option_and_then (λ start. first_step (λ before left. open_at before left) start r.path) (start_of l r)

  -- ---- the first step of a path that fails the test of a fault

  abbrev pub step_detail : RouteEntry → TableFault → Port → Port → Option PathDetail
  step_detail r (fault.PathBroken _) = λ before left. break_at before left
  step_detail r (fault.FlankMissing _) = λ before left. lacking_at l r before left
  step_detail r (fault.FlankOpen _) = λ before left. open_at before left
  step_detail r _ = λ before left. None

  unfoldable pub path_detail : RouteEntry → TableFault → Option PathDetail
  path_detail r f = option_and_then (λ start. first_step (step_detail r f) start r.path) (start_of l r)

  -- ---- the exit, and the signal that stands in the way

  -- the exit is at a port: the signal stands there, or the border is joined to it
  unfoldable pub is_exit : Exit → Port → Bool
  is_exit (exit.Signal s) p = some_and (λ signal. same_port signal.at p) (slice_get l.signals s.0)
  is_exit (exit.Border b) p = some_and (λ beyond. same_element beyond.element (element.Border b)) (joined_to l.joints p)

  abbrev pub elsewhere : Exit → Port → Option PathDetail
  elsewhere x last = option_and_then (λ end. option_map (λ name. EndsElsewhere end name) (exit_name l x)) (port_name l last)

  -- the signal at a port by which the path leaves an element, where it isn't the exit
  abbrev pub in_the_way_of : Exit → Port → ℕ → Option PathDetail
  in_the_way_of x left n =
      if is_signal x n then None else option_and_then (λ name. option_map (λ at. InTheWay name at) (port_name l left)) (signal_name l n)

  unfoldable pub in_the_way : Exit → Port → Option PathDetail
  in_the_way x left = option_and_then (in_the_way_of x left) (signal_at l.signals left)

  abbrev pub exit_behind : RouteEntry → Port → Option PathDetail
  exit_behind r last =
      if not (is_exit r.exit last) then elsewhere r.exit last
      else (if is_signal r.exit r.entry.0 then option_map EndsAtEntry (signal_name l r.entry.0) else first_of (in_the_way r.exit) r.path)

  unfoldable pub exit_detail : RouteEntry → Option PathDetail
  exit_detail r = option_and_then (exit_behind r) (slice_get r.path (length r.path - 1))

  -- ---- the route that doesn't list this one

  unfoldable pub lists : RouteId → RouteId → Bool
  lists a b = some_and (λ r. is_listed r.extra b) (slice_get l.routes a.0)

  unfoldable pub unanswered : RouteId → RouteId → Option RouteDetail
  unanswered id other =
      if other.0 == id.0 then Some WithItself
      else (if lists other id then None else option_map Unanswered (route_name l other))

  -- ---- by the fault

  unfoldable pub detail_of : RouteEntry → RouteId → TableFault → Option RouteDetail
  detail_of r id (fault.PathBroken _) = option_map Path (broken_detail r)
  detail_of r id (fault.PathRepeats _) = option_map Path (repeated_detail l r)
  detail_of r id (fault.PointMissing _) = first_of (unwritten_at r) r.path
  detail_of r id (fault.PointWrong _) = option_map Points (wrong_detail l r)
  detail_of r id (fault.FlankMissing _) = option_map Path (lacking_detail l r)
  detail_of r id (fault.FlankOpen _) = option_map Path (open_detail r)
  detail_of r id (fault.FlankContradicts _) = option_map Points (contrary_detail l r)
  detail_of r id (fault.SignalPlace _) = option_map Path (exit_detail r)
  detail_of r id (fault.NotSymmetric _) = first_of (unanswered id) r.extra
  detail_of r id fault.OutOfMemory = None

  -- what is told of the route of a fault
  abbrev pub detail_at : TableFault → FaultyRoute → RouteEntry → Option RouteAdvice
  detail_at f route r = option_map (λ detail. record { route = route; detail = detail }) (detail_of r route.id f)

  unfoldable pub table_detail : TableFault → Option RouteAdvice
  table_detail f = option_and_then (λ route. option_and_then (detail_at f route) (slice_get l.routes route.id.0)) (route_at_fault f)

-- The advice for a fault of a table: what is wrong with its route, by name, where that is found, and otherwise what the fault means.
abbrev pub table_advice : Site → TableFault → Advice
table_advice l f = unwrap_or (option_map advised.Route (table_detail l f)) (advised.Table f)
