-- What an operator asks for at a panel, a line each:
--
--     set ROUTE, cancel ROUTE, resume     as in a script; also release, move, close, open
--     occupy SECTION, clear SECTION
--     restart NODE CLOCK SN
--     cancel all         each route of the table, whatever a route is called
--     cut NODE           what goes to the node or comes from it is lost
--     mend NODE          it isn't lost any more
--     drop N             of the datagrams that are sent one in N is lost; none where N is 0
--     delay MS           datagrams come so much late, up to 2000
--     jam POINT          the point doesn't reach an end position
--     unjam POINT        it does again
--     automatic ROUTE, queue ROUTE, manual ROUTE     what the panel does by itself (`StandingOrders`)
use Rattle.std.specs.Prelude.{ℕ, nat_le, nat_lt, if◌then◌else◌, List, [], ◌∷◌, codes, length, Result, Ok, Err}
use Rattle.std.specs.Str.{bytes_eq}
use Rattle.node_lines.specs.replay_words.declared.fault.Fault.{Fault}
use Rattle.node_lines.specs.replay_words.declared.fault.Fault.TheVariants.{Name, Words, Number}
use Rattle.node_lines.specs.replay_words.Fault.{◌>>=◌}
use Rattle.node_lines.specs.replay_words.Read.{decimal}
use Rattle.node_lines.specs.layout.Entries.{Site}
use Rattle.node_lines.specs.ixl_spec.rasta_core.time.TheConstants.{LIFETIME}
use Rattle.node_lines.specs.replay_lines.Names.{node_named, point_named, route_named}
use Rattle.node_lines.specs.replay_lines.Scripted.{script_event}
use Rattle.panel_desk.specs.declared.panel_command.Disturbance.TheVariants.{Cut, Mend, Drop, Delay, Jam, Unjam}
use Rattle.panel_desk.specs.declared.panel_command.PanelCommand.{PanelCommand}
use Rattle.panel_desk.specs.declared.panel_command.PanelCommand.TheVariants.{Event, CancelAll, Disturb, Stand}
use Rattle.panel_desk.specs.declared.standing_order.StandingOrder.TheVariants.{Automatic, Queue, Manual}
use Rattle.node_lines.specs.layout.declared.ids.RouteId.{RouteId}

-- ---- by the words after the first

abbrev pub cut : Site → List (List ℕ) → Result PanelCommand Fault
cut site (word ∷ []) = do
  node ← node_named site word
  Ok (Disturb (Cut node))
cut site other = Err Words

abbrev pub mend : Site → List (List ℕ) → Result PanelCommand Fault
mend site (word ∷ []) = do
  node ← node_named site word
  Ok (Disturb (Mend node))
mend site other = Err Words

abbrev pub dropped : List (List ℕ) → Result PanelCommand Fault
dropped (word ∷ []) = do
  number ← decimal word
  Ok (Disturb (Drop number))
dropped other = Err Words

-- a number that is at most `most`
abbrev pub up_to : ℕ → List ℕ → Result ℕ Fault
up_to most word = do
  number ← decimal word
  if nat_le number most then Ok number else Err Number

abbrev pub delay : List (List ℕ) → Result PanelCommand Fault
delay (word ∷ []) = do
  millis ← up_to LIFETIME word
  Ok (Disturb (Delay millis))
delay other = Err Words

abbrev pub jam : Site → List (List ℕ) → Result PanelCommand Fault
jam site (word ∷ []) = do
  point ← point_named site word
  Ok (Disturb (Jam point))
jam site other = Err Words

abbrev pub unjam : Site → List (List ℕ) → Result PanelCommand Fault
unjam site (word ∷ []) = do
  point ← point_named site word
  Ok (Disturb (Unjam point))
unjam site other = Err Words

-- the route of the table that a word names
abbrev pub route_there : Site → List (List ℕ) → Result RouteId Fault
route_there site (word ∷ []) = if nat_lt (route_named site word).0 (length site.routes) then Ok (route_named site word) else Err Name
route_there site other = Err Words

abbrev pub automatic : Site → List (List ℕ) → Result PanelCommand Fault
automatic site words = do
  route ← route_there site words
  Ok (Stand (Automatic route))

abbrev pub queue : Site → List (List ℕ) → Result PanelCommand Fault
queue site words = do
  route ← route_there site words
  Ok (Stand (Queue route))

abbrev pub manual : Site → List (List ℕ) → Result PanelCommand Fault
manual site words = do
  route ← route_there site words
  Ok (Stand (Manual route))

-- ---- by all words

-- the event that they say in a script
abbrev pub event : Site → List (List ℕ) → Result PanelCommand Fault
event site words = do
  of ← script_event site words
  Ok (Event of)

-- by all words and those after `cancel`
abbrev pub cancel : Site → List (List ℕ) → List (List ℕ) → Result PanelCommand Fault
cancel site words (word ∷ []) = if bytes_eq word (codes "all") then Ok CancelAll else event site words
cancel site words other = event site words

-- by all words, the first, and those after it
abbrev pub said_by : Site → List (List ℕ) → List ℕ → List (List ℕ) → Result PanelCommand Fault
said_by site words first rest =
    if bytes_eq first (codes "cancel") then cancel site words rest
    else if bytes_eq first (codes "cut") then cut site rest
    else if bytes_eq first (codes "mend") then mend site rest
    else if bytes_eq first (codes "drop") then dropped rest
    else if bytes_eq first (codes "delay") then delay rest
    else if bytes_eq first (codes "jam") then jam site rest
    else if bytes_eq first (codes "unjam") then unjam site rest
    else if bytes_eq first (codes "automatic") then automatic site rest
    else if bytes_eq first (codes "queue") then queue site rest
    else if bytes_eq first (codes "manual") then manual site rest
    else event site words

-- what words ask for, or their lowest fault
abbrev pub panel_said : Site → List (List ℕ) → Result PanelCommand Fault
panel_said site (first ∷ rest) = said_by site (first ∷ rest) first rest
panel_said site [] = event site []
