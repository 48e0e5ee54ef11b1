-- What a panel tells, a line each. The lines of `node_lines` tell what the interlocking knows: `link`, `section`, `point`, `signal`,
-- `indicates` and `route`; one more tells that it doesn't know what a signal indicates. The others tell what is seen of a station in
-- one process, and of its faults:
--
--     indicates SIGNAL unknown
--     time MS
--     ixl ready|holding|resume               what the interlocking takes
--     shows SIGNAL stop|proceed|slow
--     lies POINT left|right|none             with `driven left` or `driven right` after it, if it is
--     stands SECTION clear|occupied
--     locked SECTION ROUTE                   for which route; a hyphen for none
--     released ROUTE yes|no                  whether it was released in its present setting
--     closed-section SECTION yes|no, closed-left POINT .., closed-right POINT .., closed-signal SIGNAL .., closed-route ROUTE ..
--     counted RELEASES OPENS                 how many auxiliary commands were accepted
--     automatic ROUTE yes|no
--     waits ROUTE N                          its place among those that wait until they are set; a hyphen for none
--     cut NODE yes|no
--     network-a NODE lost|back, network-b .. nothing until it was lost for the first time
--     jam POINT yes|no
--     drop N, delay MS, memory BYTES LIMIT
use Rattle.std.specs.Prelude.{ℕ, Bool, true, false, List, [], ◌∷◌, ◌++◌, codes, Option, Some, None}
use Rattle.std.specs.Fmt.{decimal}
use Rattle.node_lines.specs.layout.Entries.{Site}
use Rattle.node_lines.specs.layout.declared.ids.RouteId.{RouteId}
use Rattle.node_lines.specs.sci_telegram.Words.{aspect_word, occupancy_word, position_word}
use Rattle.node_lines.specs.sci_telegram.declared.message.Side.{Side}
use Rattle.node_lines.specs.sci_telegram.declared.message.Side.TheVariants.{Left, Right}
use Rattle.node_lines.specs.closings.Words.{name_word}
use Rattle.node_lines.specs.closings.declared.thing.Named.TheVariants.{One}
use Rattle.node_lines.specs.closings.declared.thing.Thing.{Thing}
use Rattle.node_lines.specs.closings.declared.thing.Thing.TheVariants as thing
use Rattle.node_lines.specs.simulator_event.layout.declared.ids.NodeId.{NodeId}
use Rattle.node_lines.specs.replay_lines.Names.{point_word, route_word, section_word}
use Rattle.node_lines.specs.Known.{known_text, node_word, signal_word}
use Rattle.panel_desk.specs.declared.panel_command.Disturbance.{Disturbance}
use Rattle.panel_desk.specs.declared.panel_command.Disturbance.TheVariants as asked
use Rattle.panel_desk.specs.declared.standing_order.StandingOrder.{StandingOrder}
use Rattle.panel_desk.specs.declared.standing_order.StandingOrder.TheVariants as order
use Rattle.panel_desk.specs.declared.panel_line.Mode.{Mode}
use Rattle.panel_desk.specs.declared.panel_line.Mode.TheVariants.{Ready, Holding, WaitingForResume}
use Rattle.panel_desk.specs.declared.panel_line.PanelLine.{PanelLine}
use Rattle.panel_desk.specs.declared.panel_line.PanelLine.TheVariants.{Time, Interlocking, Known, Shows, Silent, Lies, Stands, Locked, Released, Closed, Counted, Automatic, Waits, Cut, Network, Jam, Drop, Delay, Memory}
use Rattle.panel_desk.specs.declared.panel_line.PanelNetwork.{PanelNetwork}
use Rattle.panel_desk.specs.declared.panel_line.PanelNetwork.TheVariants.{A, B}

-- ---- words

abbrev pub mode_word : Mode → List ℕ
mode_word Ready = codes "ready"
mode_word Holding = codes "holding"
mode_word WaitingForResume = codes "resume"

abbrev pub driven_words : Option Side → List ℕ
driven_words None = []
driven_words (Some Right) = codes " driven right"
driven_words (Some Left) = codes " driven left"

abbrev pub yes_or_no : Bool → List ℕ
yes_or_no true = codes "yes"
yes_or_no false = codes "no"

abbrev pub network_letter : PanelNetwork → List ℕ
network_letter A = codes "a"
network_letter B = codes "b"

abbrev pub lost_word : Bool → List ℕ
lost_word true = codes "lost"
lost_word false = codes "back"

abbrev pub route_or_none : Site → Option RouteId → List ℕ
route_or_none site (Some route) = route_word site route
route_or_none site None = codes "-"

-- what kind of thing is closed; a point has a word for each side
abbrev pub closing_kind : Thing → List ℕ
closing_kind (thing.Section section) = codes "section"
closing_kind (thing.Point point Left) = codes "left"
closing_kind (thing.Point point Right) = codes "right"
closing_kind (thing.Signal signal) = codes "signal"
closing_kind (thing.Route route) = codes "route"

-- ---- lines

abbrev pub place_word : Option ℕ → List ℕ
place_word (Some place) = decimal place
place_word None = codes "-"

-- what is told of a route, and of what is closed
abbrev pub route_text : Site → PanelLine → List ℕ
route_text site (Released route is_released) = codes "released " ++ (route_word site route ++ 32 ∷ yes_or_no is_released)
route_text site (Closed thing is_closed) = codes "closed-" ++ (closing_kind thing ++ 32 ∷ (name_word site (One thing) ++ 32 ∷ yes_or_no is_closed))
route_text site (Automatic route is_automatic) = codes "automatic " ++ (route_word site route ++ 32 ∷ yes_or_no is_automatic)
route_text site (Waits route place) = codes "waits " ++ (route_word site route ++ 32 ∷ place_word place)
route_text site other = []

abbrev pub cut_text : Site → NodeId → Bool → List ℕ
cut_text site node is_cut = codes "cut " ++ (node_word site node ++ 32 ∷ yes_or_no is_cut)

abbrev pub network_text : Site → PanelNetwork → NodeId → Option Bool → List ℕ
network_text site network node None = []
network_text site network node (Some is_lost) = codes "network-" ++ (network_letter network ++ 32 ∷ (node_word site node ++ 32 ∷ lost_word is_lost))

-- what is told of a thing of the layout
abbrev pub thing_text : Site → PanelLine → List ℕ
thing_text site (Shows signal aspect) = codes "shows " ++ (signal_word site signal ++ 32 ∷ aspect_word aspect)
thing_text site (Silent signal) = codes "indicates " ++ (signal_word site signal ++ codes " unknown")
thing_text site (Lies point position driven) = codes "lies " ++ (point_word site point ++ 32 ∷ (position_word position ++ driven_words driven))
thing_text site (Stands section occupancy) = codes "stands " ++ (section_word site section ++ 32 ∷ occupancy_word occupancy)
thing_text site (Locked section route) = codes "locked " ++ (section_word site section ++ 32 ∷ route_or_none site route)
thing_text site (Cut node is_cut) = cut_text site node is_cut
thing_text site (Network network node is_lost) = network_text site network node is_lost
thing_text site (Jam point is_jammed) = codes "jam " ++ (point_word site point ++ 32 ∷ yes_or_no is_jammed)
thing_text site other = route_text site other

abbrev pub panel_text : Site → PanelLine → List ℕ
panel_text site (Time millis) = codes "time " ++ decimal millis
panel_text site (Interlocking mode) = codes "ixl " ++ mode_word mode
panel_text site (Known known) = known_text site known
panel_text site (Counted counts) = codes "counted " ++ (decimal counts.releases ++ 32 ∷ decimal counts.opens)
panel_text site (Drop one_in) = codes "drop " ++ decimal one_in
panel_text site (Delay millis) = codes "delay " ++ decimal millis
panel_text site (Memory bytes limit) = codes "memory " ++ (decimal bytes ++ 32 ∷ decimal limit)
panel_text site thing = thing_text site thing

-- the line that asks for a disturbance
abbrev pub disturbance_text : Site → Disturbance → List ℕ
disturbance_text site (asked.Cut node) = codes "cut " ++ node_word site node
disturbance_text site (asked.Mend node) = codes "mend " ++ node_word site node
disturbance_text site (asked.Drop one_in) = codes "drop " ++ decimal one_in
disturbance_text site (asked.Delay millis) = codes "delay " ++ decimal millis
disturbance_text site (asked.Jam point) = codes "jam " ++ point_word site point
disturbance_text site (asked.Unjam point) = codes "unjam " ++ point_word site point

-- the line that asks for a standing order
abbrev pub order_text : Site → StandingOrder → List ℕ
order_text site (order.Automatic route) = codes "automatic " ++ route_word site route
order_text site (order.Queue route) = codes "queue " ++ route_word site route
order_text site (order.Manual route) = codes "manual " ++ route_word site route
