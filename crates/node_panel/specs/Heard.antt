-- What an interlocking's node has told since its operator's connection began, and what is shown of it.
use Rattle.std.specs.Prelude.{ℕ, zero, suc, ◌-◌, ◌&&◌, nat_le, Bool, true, false, if◌then◌else◌, List, [], ◌∷◌, ◌++◌, codes, length, replicate, Option, Some, None, Result, Ok, Err}
use Rattle.std.specs.Str.{bytes_eq}
use Rattle.panel_desk.specs.declared.panel_line.Mode.{Mode}
use Rattle.panel_desk.specs.declared.panel_line.Mode.TheVariants as mode
use Rattle.panel_desk.specs.declared.panel_line.PanelLine.{PanelLine}
use Rattle.panel_desk.specs.declared.panel_line.PanelLine.TheVariants.{Interlocking, Silent, Time}
use Rattle.panel_desk.specs.declared.panel_line.PanelLine.TheVariants as shows
use Rattle.panel_desk.specs.declared.panel_line.PanelNetwork.{PanelNetwork}
use Rattle.panel_desk.specs.declared.panel_line.PanelNetwork.TheVariants.{A, B}
use Rattle.panel_desk.specs.node_lines.ixl_spec.declared.command.Command.TheVariants.{Resume}
use Rattle.panel_desk.specs.node_lines.layout.Entries.{Site}
use Rattle.panel_desk.specs.node_lines.layout.Nodes.{links as link_count}
use Rattle.panel_desk.specs.node_lines.replay_words.Cut.{words}
use Rattle.panel_desk.specs.node_lines.replay_words.declared.fault.Fault.{Fault}
use Rattle.panel_desk.specs.node_lines.sci_telegram.declared.message.Aspect.{Aspect}
use Rattle.panel_desk.specs.node_lines.sci_telegram.declared.message.Occupancy.{Occupancy}
use Rattle.panel_desk.specs.node_lines.sci_telegram.declared.message.Side.{Side}
use Rattle.panel_desk.specs.node_lines.declared.operator_command.OperatorCommand.{OperatorCommand}
use Rattle.panel_desk.specs.node_lines.declared.operator_command.OperatorCommand.TheVariants.{One}
use Rattle.panel_desk.specs.node_lines.declared.operator_line.Authority.{Authority}
use Rattle.panel_desk.specs.node_lines.declared.operator_line.Known.{Known}
use Rattle.panel_desk.specs.node_lines.declared.operator_line.Known.TheVariants.{Link, Section, Point, Signal, Indicates, Route, Released, Closing, Counted, Holding, WaitingForResume}
use Rattle.panel_desk.specs.node_lines.declared.operator_line.LinkState.{LinkState}
use Rattle.panel_desk.specs.node_lines.declared.operator_line.LinkState.TheVariants.{Ready, Lost}
use Rattle.node_drive.specs.Calls.{LineHeard, Text, Nothing, Closed}
use Rattle.panel_desk.specs.node_lines.closings.Auxiliaries.{none_counted}
use Rattle.panel_desk.specs.node_lines.closings.declared.auxiliary.Auxiliary.{Auxiliary}
use Rattle.panel_desk.specs.node_lines.closings.declared.auxiliary.Auxiliary.TheVariants.{Release, Open}
use Rattle.panel_desk.specs.node_lines.closings.declared.auxiliary.AuxiliaryCounts.{AuxiliaryCounts}
use Rattle.node_panel.specs.ClosedHeard.{ClosedView, all_open, closed_lines, each, nothing_closed, put_at, put_closing}
use Rattle.node_panel.specs.Lines.{told_said}
use Rattle.node_panel.specs.declared.told.Told.{Told}
use Rattle.panel_desk.specs.run_numbers.Metrics.{nothing_told, told}
use Rattle.node_panel.specs.declared.told.Told.TheVariants.{Answer, Counts, Network, Process, Tells}

pub record HeardView : Type 0 where
  -- the operator's clock, in milliseconds
  pub millis : ℕ
  -- whether it told anything of the station
  pub joined : Bool
  -- what it takes
  pub mode : Mode
  -- of each controller, in the order of the nodes, whether its link is ready
  pub links : List Bool
  pub sections : List (Option Occupancy)
  pub points : List (Option Side)
  -- of each signal, the authority that was given
  pub authorities : List (Option Authority)
  -- of each signal, what its controller indicates, as long as its link is ready
  pub indications : List (Option Aspect)
  -- of each route, whether it is set
  pub routes : List Bool
  -- of each route, whether it was released in its present setting
  pub released : List Bool
  pub closed : ClosedView
  -- how many auxiliary commands it has accepted
  pub counts : AuxiliaryCounts
  -- of each controller, whether the first network is lost there, and the second, if that was told
  pub first_lost : List (Option Bool)
  pub second_lost : List (Option Bool)
  -- the commands that weren't answered yet, oldest first
  pub asked : List OperatorCommand
  -- the numbers that it told, and when it was asked for them last
  pub numbers : List (Option ℕ)
  pub questioned : Option ℕ

-- ---- nothing was told

abbrev pub unheard : Site → HeardView
unheard site = record {
  millis = 0;
  joined = false;
  mode = mode.Ready;
  links = replicate (link_count site) false;
  sections = replicate (length site.sections) None;
  points = replicate (length site.points) None;
  authorities = replicate (length site.signals) None;
  indications = replicate (length site.signals) None;
  routes = replicate (length site.routes) false;
  released = replicate (length site.routes) false;
  closed = nothing_closed site;
  counts = none_counted;
  first_lost = replicate (link_count site) None;
  second_lost = replicate (link_count site) None;
  asked = [];
  numbers = nothing_told;
  questioned = None;
}

-- as if nothing had been told
abbrev pub forgotten : HeardView → HeardView
forgotten heard = record heard {
  joined = false;
  mode = mode.Ready;
  links = replicate (length heard.links) false;
  sections = replicate (length heard.sections) None;
  points = replicate (length heard.points) None;
  authorities = replicate (length heard.authorities) None;
  indications = replicate (length heard.indications) None;
  routes = replicate (length heard.routes) false;
  released = replicate (length heard.released) false;
  closed = all_open heard.closed;
  counts = none_counted;
  first_lost = replicate (length heard.first_lost) None;
  second_lost = replicate (length heard.second_lost) None;
  asked = [];
  numbers = replicate (length heard.numbers) None;
  questioned = None;
}

-- ---- something is told

-- what a controller indicated isn't known any more when its link is lost
abbrev pub put_link : ℕ → LinkState → HeardView → HeardView
put_link zero state heard = heard
put_link (suc place) Ready heard = record heard { links = put_at place true heard.links }
put_link (suc place) Lost heard = record heard { links = put_at place false heard.links; indications = put_at place None heard.indications }

-- so many auxiliary commands of a kind were accepted
abbrev pub counts_with : Auxiliary → ℕ → AuxiliaryCounts → AuxiliaryCounts
counts_with Release count counts = record counts { releases = count }
counts_with Open count counts = record counts { opens = count }

-- What was told of a release ends with the setting of its route: the route is told as free, and later perhaps as set.
abbrev pub put : Known → HeardView → HeardView
put (Link node state) heard = put_link node.0 state heard
put (Section section occupancy) heard = record heard { sections = put_at section.0 occupancy heard.sections }
put (Point point side) heard = record heard { points = put_at point.0 side heard.points }
put (Signal signal authority) heard = record heard { authorities = put_at signal.0 authority heard.authorities }
put (Indicates signal aspect) heard = record heard { indications = put_at signal.0 (Some aspect) heard.indications }
put (Route route is_set) heard = record heard { routes = put_at route.0 is_set heard.routes; released = put_at route.0 false heard.released }
put (Released route) heard = record heard { released = put_at route.0 true heard.released }
put (Closing thing is_closed) heard = record heard { closed = put_closing thing is_closed heard.closed }
put (Counted command count) heard = record heard { counts = counts_with command count heard.counts }
put Holding heard = record heard { mode = mode.Holding }
put WaitingForResume heard = record heard { mode = mode.WaitingForResume }

-- a network is lost at a controller, or back
abbrev pub put_network : PanelNetwork → ℕ → Bool → HeardView → HeardView
put_network network zero is_lost heard = heard
put_network A (suc place) is_lost heard = record heard { first_lost = put_at place (Some is_lost) heard.first_lost }
put_network B (suc place) is_lost heard = record heard { second_lost = put_at place (Some is_lost) heard.second_lost }

-- Commands are taken once *resume* was accepted: of that nothing else is told.
abbrev pub mode_after : OperatorCommand → List ℕ → Mode → Mode
mode_after (One Resume) text before = if bytes_eq text (codes "accepted") then mode.Ready else before
mode_after other text before = before

-- an answer is that to the oldest command
abbrev pub answered_by : List ℕ → List OperatorCommand → HeardView → HeardView
answered_by text [] heard = heard
answered_by text (command ∷ more) heard = record heard { asked = more; mode = mode_after command text heard.mode }

-- What the process tells of its file says nothing of what the interlocking knows: it stands in the log alone. A line that says nothing
-- changes nothing.
abbrev pub told_by : List ℕ → Result Told Fault → HeardView → HeardView
told_by text (Ok Answer) heard = answered_by text heard.asked heard
told_by text (Ok (Tells known)) heard = put known (record heard { joined = true })
told_by text (Ok (Network network node is_lost)) heard = put_network network node.0 is_lost (record heard { joined = true })
told_by text (Ok (Counts row value)) heard = record heard { numbers = told row value heard.numbers }
told_by text (Ok (Process closings)) heard = heard
told_by text (Err fault) heard = heard

-- what is known after the question for a line: what the line told; and nothing where the node has gone
abbrev pub heard_by : Site → LineHeard → HeardView → HeardView
heard_by site (Text text) heard = told_by text (told_said site (words text)) heard
heard_by site Nothing heard = heard
heard_by site Closed heard = forgotten heard

abbrev pub heard_all : Site → List LineHeard → HeardView → HeardView
heard_all site [] heard = heard
heard_all site (one ∷ more) heard = heard_all site more (heard_by site one heard)

-- ---- the question for the numbers

-- 10 s have passed since the last, if there was one
abbrev pub is_due : Option ℕ → ℕ → Bool
is_due None now = true
is_due (Some questioned) now = nat_le 10000 (now - questioned)

-- it is asked where it has told something
abbrev pub wants_numbers : HeardView → Bool
wants_numbers heard = heard.joined && is_due heard.questioned heard.millis

-- ---- the picture

abbrev pub link_state : Bool → LinkState
link_state true = Ready
link_state false = Lost

abbrev pub link_line : ℕ → Bool → PanelLine
link_line node ready = shows.Known (Link (record { 0 = node }) (link_state ready))

abbrev pub section_line : ℕ → Option Occupancy → PanelLine
section_line place occupancy = shows.Known (Section (record { 0 = place }) occupancy)

abbrev pub point_line : ℕ → Option Side → PanelLine
point_line place side = shows.Known (Point (record { 0 = place }) side)

abbrev pub authority_line : ℕ → Option Authority → PanelLine
authority_line place authority = shows.Known (Signal (record { 0 = place }) authority)

abbrev pub indication_line : ℕ → Option Aspect → PanelLine
indication_line place (Some aspect) = shows.Known (Indicates (record { 0 = place }) aspect)
indication_line place None = Silent (record { 0 = place })

abbrev pub route_line : ℕ → Bool → PanelLine
route_line place is_set = shows.Known (Route (record { 0 = place }) is_set)

abbrev pub released_line : ℕ → Bool → PanelLine
released_line place is_released = shows.Released (record { 0 = place }) is_released

abbrev pub network_line : PanelNetwork → ℕ → Option Bool → PanelLine
network_line network node is_lost = shows.Network network (record { 0 = node }) is_lost

-- A line of each thing. The node's own link is the operator's: it is ready where the node told anything.
abbrev pub pictured : HeardView → List PanelLine
pictured heard =
    Time heard.millis ∷ Interlocking heard.mode ∷ link_line 0 heard.joined ∷ (each link_line 1 heard.links ++ (each section_line 0 heard.sections
    ++ (each point_line 0 heard.points ++ (each authority_line 0 heard.authorities ++ (each indication_line 0 heard.indications ++ (each route_line 0 heard.routes
    ++ (each released_line 0 heard.released ++ (closed_lines heard.closed ++ shows.Counted heard.counts
    ∷ (each (network_line A) 1 heard.first_lost ++ each (network_line B) 1 heard.second_lost)))))))))
