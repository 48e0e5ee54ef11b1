-- What a line of an interlocking's node tells its operator, by its words: the answer to a command, what the interlocking knows of one
-- thing, that a network is lost or back, a number, or what the process tells of its file of closings. `node_lines` has these lines,
-- `node_network` those of networks, `run_numbers` those of numbers, and `station_node` those of the process.
use Rattle.std.specs.Prelude.{◌≢◌, ◌<◌, ◌^◌, ℕ, nat_lt, Bool, true, false, if◌then◌else◌, List, [], ◌∷◌, codes, length, Option, Some, None, Result, Ok, Err}
use Rattle.std.specs.List.{join_with_byte}
use Rattle.std.specs.Option.{ok_or}
use Rattle.std.specs.Str.{bytes_eq}
use Rattle.std.specs.Borrow.{Bor}
use Rattle.panel_desk.specs.node_lines.closings.Things.{HasThing}
use Rattle.panel_desk.specs.node_lines.closings.Words.{named, side_said}
use Rattle.panel_desk.specs.node_lines.closings.declared.thing.Named.{Named}
use Rattle.panel_desk.specs.node_lines.closings.declared.thing.Named.TheVariants.{One}
use Rattle.panel_desk.specs.node_lines.closings.declared.thing.Thing.{Thing}
use Rattle.panel_desk.specs.node_lines.closings.declared.auxiliary.Auxiliary.{Auxiliary}
use Rattle.panel_desk.specs.node_lines.closings.declared.auxiliary.Auxiliary.TheVariants as auxiliary
use Rattle.panel_desk.specs.node_lines.replay_words.Read.{decimal}
use Rattle.panel_desk.specs.node_lines.sci_telegram.declared.message.Side.{Side}
use Rattle.panel_desk.specs.node_lines.layout.Entries.{Site}
use Rattle.panel_desk.specs.node_lines.layout.Nodes.{Node, Signal, node_at}
use Rattle.panel_desk.specs.node_lines.layout.declared.ids.RouteId.{RouteId}
use Rattle.panel_desk.specs.node_lines.layout.declared.ids.SignalId.{SignalId}
use Rattle.panel_desk.specs.node_lines.replay_lines.Names.{node_named, node_names, point_named, route_named, section_named}
use Rattle.panel_desk.specs.node_lines.replay_words.Fault.{◌>>=◌}
use Rattle.panel_desk.specs.node_lines.replay_words.declared.fault.Fault.{Fault}
use Rattle.panel_desk.specs.node_lines.replay_words.declared.fault.Fault.TheVariants.{Name, Words}
use Rattle.panel_desk.specs.node_lines.sci_telegram.declared.message.Aspect.TheVariants.{Stop}
use Rattle.panel_desk.specs.node_lines.sci_telegram.Words.{aspect_of_word, occupancy_of_word, side_of_word}
use Rattle.panel_desk.specs.declared.panel_line.PanelNetwork.{PanelNetwork}
use Rattle.panel_desk.specs.declared.panel_line.PanelNetwork.TheVariants.{A, B}
use Rattle.panel_desk.specs.node_lines.declared.operator_line.Authority.{Authority}
use Rattle.panel_desk.specs.node_lines.declared.operator_line.Known.{Known}
use Rattle.panel_desk.specs.node_lines.declared.operator_line.Known.TheVariants as known
use Rattle.panel_desk.specs.node_lines.declared.operator_line.LinkState.{LinkState}
use Rattle.panel_desk.specs.node_lines.declared.operator_line.LinkState.TheVariants.{Ready, Lost}
use Rattle.node_panel.specs.declared.told.Told.{Told}
use Rattle.node_panel.specs.declared.told.ClosingsTold.TheVariants.{Lost as ClosingsLost, NotKept}
use Rattle.node_panel.specs.declared.told.Told.TheVariants.{Answer, Counts, Network, Process, Tells}
use Rattle.panel_desk.specs.run_numbers.Lines.{number_said}
use Rattle.panel_desk.specs.run_numbers.declared.row.Row.{Row}

-- ---- words

abbrev pub link_said : List ℕ → Result LinkState Fault
link_said word =
    if bytes_eq word (codes "ready") then Ok Ready
    else if bytes_eq word (codes "lost") then Ok Lost
    else Err Words

-- what a word says, if anything is known of it; `unknown` says that nothing is
abbrev pub or_unknown : {T : Type 0} → List ℕ → Option T → Result (Option T) Fault
or_unknown word (Some said) = Ok (Some said)
or_unknown word None = if bytes_eq word (codes "unknown") then Ok None else Err Words

abbrev pub route_state_said : List ℕ → Result Bool Fault
route_state_said word =
    if bytes_eq word (codes "set") then Ok true
    else if bytes_eq word (codes "free") then Ok false
    else Err Words

-- a word that is there
abbrev pub word_there : Option (Bor (List ℕ)) → Option (List ℕ)
word_there (Some word) = Some word.now
word_there None = None

-- ---- names

-- the signal that is this node, if it is one
abbrev pub signal_of : Option Node → Result SignalId Fault
signal_of (Some (Signal place)) = Ok (record { 0 = place })
signal_of other = Err Name

abbrev pub signal_named : Site → List ℕ → Result SignalId Fault
signal_named site word = do
  node ← node_named site word
  signal_of (node_at site node.0)

-- a route that the table has
abbrev pub route_of : ℕ → RouteId → Result RouteId Fault
route_of routes route = if nat_lt route.0 routes then Ok route else Err Name

abbrev pub known_route : Site → List ℕ → Result RouteId Fault
known_route site word = route_of (length site.routes) (route_named site word)

-- ---- lines, by the words after the first

abbrev pub link : Site → List (List ℕ) → Result Known Fault
link site (name ∷ word ∷ []) = do
  node ← node_named site name
  state ← link_said word
  Ok (known.Link node state)
link site other = Err Words

abbrev pub section : Site → List (List ℕ) → Result Known Fault
section site (name ∷ word ∷ []) = do
  section ← section_named site name
  occupancy ← or_unknown word (occupancy_of_word word)
  Ok (known.Section section occupancy)
section site other = Err Words

abbrev pub point : Site → List (List ℕ) → Result Known Fault
point site (name ∷ word ∷ []) = do
  point ← point_named site name
  side ← or_unknown word (side_of_word word)
  Ok (known.Point point side)
point site other = Err Words

-- no authority is told by a hyphen for the route
abbrev pub authority_said : Site → List ℕ → List ℕ → Result (Option Authority) Fault
authority_said site aspect route =
    if bytes_eq aspect (codes "stop") then (if bytes_eq route (codes "-") then Ok None else Err Words)
    else (do
      aspect ← ok_or (aspect_of_word aspect) Words
      route ← known_route site route
      Ok (Some (record { aspect = aspect; route = route })))

abbrev pub signal : Site → List (List ℕ) → Result Known Fault
signal site (name ∷ aspect ∷ route ∷ []) = do
  signal ← signal_named site name
  authority ← authority_said site aspect route
  Ok (known.Signal signal authority)
signal site other = Err Words

abbrev pub indicates : Site → List (List ℕ) → Result Known Fault
indicates site (name ∷ word ∷ []) = do
  signal ← signal_named site name
  aspect ← ok_or (aspect_of_word word) Words
  Ok (known.Indicates signal aspect)
indicates site other = Err Words

abbrev pub route_said : RouteId → List ℕ → Result Known Fault
route_said route word =
    if bytes_eq word (codes "released") then Ok (known.Released route)
    else (do
      is_set ← route_state_said word
      Ok (known.Route route is_set))

abbrev pub route : Site → List (List ℕ) → Result Known Fault
route site (name ∷ word ∷ []) = do
  route ← known_route site name
  route_said route word
route site other = Err Words

-- what is closed, or isn't: a name, and of a point its side
abbrev pub side_named : Option (List ℕ) → Result (Option Side) Fault
side_named None = Ok None
side_named (Some word) = do
  side ← ok_or (side_said word) Words
  Ok (Some side)

-- one thing: a point without a side is none
abbrev pub one_thing : Option Named → Result Thing Fault
one_thing (Some (One thing)) = Ok thing
one_thing other = Err Name

abbrev pub closable : Site → List ℕ → Option (List ℕ) → Result Thing Fault
closable site name word = do
  side ← side_named word
  one_thing (named site name side)

abbrev pub closing : Site → Bool → List (List ℕ) → Result Known Fault
closing site is_closed (name ∷ []) = do
  thing ← closable site name None
  Ok (known.Closing thing is_closed)
closing site is_closed (name ∷ side ∷ []) = do
  thing ← closable site name (Some side)
  Ok (known.Closing thing is_closed)
closing site is_closed other = Err Words

-- how many auxiliary commands of a kind were accepted
abbrev pub auxiliary_said : List ℕ → Result Auxiliary Fault
auxiliary_said word =
    if bytes_eq word (codes "release") then Ok auxiliary.Release
    else if bytes_eq word (codes "open") then Ok auxiliary.Open
    else Err Words

abbrev pub counted : List (List ℕ) → Result Known Fault
counted (word ∷ number ∷ []) = do
  command ← auxiliary_said word
  count ← decimal number
  Ok (known.Counted command count)
counted other = Err Words

abbrev pub holding : List (List ℕ) → Result Known Fault
holding [] = Ok known.Holding
holding other = Err Words

abbrev pub waiting : List (List ℕ) → Result Known Fault
waiting (first ∷ second ∷ []) =
    if bytes_eq first (codes "for") then (if bytes_eq second (codes "resume") then Ok known.WaitingForResume else Err Words) else Err Words
waiting other = Err Words

-- ---- what a line tells

abbrev pub known_said : Site → List (List ℕ) → Result Known Fault
known_said site (first ∷ rest) =
    if bytes_eq first (codes "link") then link site rest
    else if bytes_eq first (codes "section") then section site rest
    else if bytes_eq first (codes "point") then point site rest
    else if bytes_eq first (codes "signal") then signal site rest
    else if bytes_eq first (codes "indicates") then indicates site rest
    else if bytes_eq first (codes "route") then route site rest
    else if bytes_eq first (codes "closed") then closing site true rest
    else if bytes_eq first (codes "open") then closing site false rest
    else if bytes_eq first (codes "counted") then counted rest
    else if bytes_eq first (codes "holding") then holding rest
    else if bytes_eq first (codes "waiting") then waiting rest
    else Err Words
known_said site [] = Err Words

-- whether a word begins an answer: `accepted`, `refused ..` or `not kept ..`
abbrev pub is_answer : List ℕ → Bool
is_answer word =
    if bytes_eq word (codes "accepted") then true
    else if bytes_eq word (codes "refused") then true
    else bytes_eq word (codes "not")

abbrev pub told_known : Result Known Fault → Result Told Fault
told_known (Ok known) = Ok (Tells known)
told_known (Err fault) = Err fault

-- that a network is lost at a node, or back
abbrev pub network_named : List ℕ → Result PanelNetwork Fault
network_named word =
    if bytes_eq word (codes "A") then Ok A
    else if bytes_eq word (codes "B") then Ok B
    else Err Words

abbrev pub lost_said : List ℕ → Result Bool Fault
lost_said word =
    if bytes_eq word (codes "lost") then Ok true
    else if bytes_eq word (codes "back") then Ok false
    else Err Words

abbrev pub network_told : Site → List (List ℕ) → Result Told Fault
network_told site (letter ∷ word ∷ name ∷ []) = do
  network ← network_named letter
  is_lost ← lost_said word
  node ← node_named site name
  Ok (Network network node is_lost)
network_told site other = Err Words

abbrev pub told_number : Result (Row × ℕ) Fault → Result Told Fault
told_number (Ok said) = Ok (Counts said.0 said.1)
told_number (Err fault) = Err fault

-- What the process tells of its file of closings: that it couldn't be taken at its word, with the cause, or that it lacks what was closed
-- or opened last.
abbrev pub not_kept_told : List (List ℕ) → Result Told Fault
not_kept_told (word ∷ []) = if bytes_eq word (codes "kept") then Ok (Process NotKept) else Err Words
not_kept_told other = Err Words

abbrev pub closings_told : List (List ℕ) → Result Told Fault
closings_told (word ∷ cause ∷ more) =
    if bytes_eq word (codes "lost:") then Ok (Process ClosingsLost)
    else if bytes_eq word (codes "not") then not_kept_told (cause ∷ more)
    else Err Words
closings_told other = Err Words

abbrev pub told_said : Site → List (List ℕ) → Result Told Fault
told_said site (first ∷ rest) =
    if is_answer first then Ok Answer
    else if bytes_eq first (codes "network") then network_told site rest
    else if bytes_eq first (codes "number") then told_number (number_said (first ∷ rest))
    else if bytes_eq first (codes "closings") then closings_told rest
    else told_known (known_said site (first ∷ rest))
told_said site [] = Err Words

-- ---- the lines of the process

-- the cause by its words
abbrev pub closings_lost : List (List ℕ) → List ℕ
closings_lost cause = join_with_byte 32 (codes "closings" ∷ codes "lost:" ∷ cause)

abbrev pub closings_not_kept : List ℕ
closings_not_kept = codes "closings not kept"

-- ---- what is told of a layout

abbrev pub IsAuthority : Site → Option Authority → Type 0
IsAuthority site None = Unit {0}
IsAuthority site (Some authority) = (authority.aspect ≢ Stop) × (authority.route.0 < length site.routes)

-- the thing is one of the layout, authority isn't given for stop, and a count has 64 bits
abbrev pub IsOf : Site → Known → Type 0
IsOf site (known.Link node state) = node.0 < length (node_names site)
IsOf site (known.Section section occupancy) = section.0 < length site.sections
IsOf site (known.Point point side) = point.0 < length site.points
IsOf site (known.Signal signal authority) = (signal.0 < length site.signals) × IsAuthority site authority
IsOf site (known.Indicates signal aspect) = signal.0 < length site.signals
IsOf site (known.Route route is_set) = route.0 < length site.routes
IsOf site (known.Released route) = route.0 < length site.routes
IsOf site (known.Closing thing is_closed) = HasThing site thing
IsOf site (known.Counted command count) = count < 2 ^ 64
IsOf site known.Holding = Unit {0}
IsOf site known.WaitingForResume = Unit {0}
