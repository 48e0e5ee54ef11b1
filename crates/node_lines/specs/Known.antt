-- What an interlocking tells its operator, a line each:
--
--     accepted                          it took the command
--     refused N                         it refused the command, by number; 5 and 14 with the route, 6 with the section, 7 with the
--                                       point, 13 with the thing
--     link NODE ready|lost
--     section S clear|occupied|unknown
--     point P left|right|unknown
--     signal S ASPECT R                 the authority given, and the route into which it leads
--     signal S stop -                   no authority; a route has another aspect than stop, also one that is called `-`
--     indicates S ASPECT                what its controller reports that it shows
--     route R set|free
--     route R released                  it is set, and was released in this setting
--     closed X, open X                  a section, a signal or a route; of a point with its side behind it
--     counted release N, counted open N how many of these commands its process has accepted
--     holding
--     waiting for resume
use Rattle.std.specs.Prelude.{ℕ, Bool, true, false, List, ◌∷◌, ◌++◌, codes, Option, Some, None, slice_get}
use Rattle.std.specs.Fmt.{decimal}
use Rattle.std.specs.Option.{option_map_or}
use Rattle.closings.specs.declared.auxiliary.Auxiliary.{Auxiliary}
use Rattle.closings.specs.declared.auxiliary.Auxiliary.TheVariants.{Release, Open}
use Rattle.replay_lines.specs.ixl_spec.closings.Words.{words_of}
use Rattle.replay_lines.specs.ixl_spec.closings.declared.thing.Named.TheVariants.{One}
use Rattle.replay_lines.specs.ixl_spec.closings.declared.thing.Thing.{Thing}
use Rattle.replay_lines.specs.ixl_spec.layout.Entries.{Site}
use Rattle.replay_lines.specs.ixl_spec.layout.declared.ids.SignalId.{SignalId}
use Rattle.replay_lines.specs.ixl_spec.sci_telegram.Words.{aspect_word, occupancy_word, side_word}
use Rattle.replay_lines.specs.ixl_spec.sci_telegram.declared.message.Occupancy.{Occupancy}
use Rattle.replay_lines.specs.ixl_spec.sci_telegram.declared.message.Side.{Side}
use Rattle.simulator_event.specs.layout.declared.ids.NodeId.{NodeId}
use Rattle.replay_lines.specs.Answers.{refusal_text}
use Rattle.replay_lines.specs.Names.{node_names, point_word, route_word, section_word}
use Rattle.node_lines.specs.declared.operator_line.Authority.{Authority}
use Rattle.node_lines.specs.declared.operator_line.Known.{Known as KnownThing}
use Rattle.node_lines.specs.declared.operator_line.Known.TheVariants.{Link, Section, Point, Signal, Indicates, Route, Released, Closing, Counted, Holding, WaitingForResume}
use Rattle.node_lines.specs.declared.operator_line.LinkState.{LinkState}
use Rattle.node_lines.specs.declared.operator_line.LinkState.TheVariants.{Ready, Lost}
use Rattle.node_lines.specs.declared.operator_line.OperatorLine.{OperatorLine}
use Rattle.node_lines.specs.declared.operator_line.OperatorLine.TheVariants.{Accepted, Refused, Known}

-- ---- words

-- the word that stands for a node or a signal: its name, or `_` where the layout lacks it
abbrev pub node_word : Site → NodeId → List ℕ
node_word site node = option_map_or (λ name. name) (slice_get (node_names site) node.0) (codes "_")

abbrev pub signal_word : Site → SignalId → List ℕ
signal_word site signal = option_map_or (λ s. s.name) (slice_get site.signals signal.0) (codes "_")

abbrev pub link_word : LinkState → List ℕ
link_word Ready = codes "ready"
link_word Lost = codes "lost"

abbrev pub known_occupancy_word : Option Occupancy → List ℕ
known_occupancy_word (Some occupancy) = occupancy_word occupancy
known_occupancy_word None = codes "unknown"

abbrev pub known_side_word : Option Side → List ℕ
known_side_word (Some side) = side_word side
known_side_word None = codes "unknown"

abbrev pub route_state_word : Bool → List ℕ
route_state_word true = codes "set"
route_state_word false = codes "free"

abbrev pub closing_word : Bool → List ℕ
closing_word true = codes "closed"
closing_word false = codes "open"

abbrev pub auxiliary_word : Auxiliary → List ℕ
auxiliary_word Release = codes "release"
auxiliary_word Open = codes "open"

-- ---- lines

-- a thing by its name, a point with its side
abbrev pub closing_text : Site → Thing → Bool → List ℕ
closing_text site thing is_closed = closing_word is_closed ++ 32 ∷ words_of site (One thing)

abbrev pub authority_text : Site → Option Authority → List ℕ
authority_text site (Some authority) = aspect_word authority.aspect ++ 32 ∷ route_word site authority.route
authority_text site None = codes "stop -"

abbrev pub signal_text : Site → SignalId → Option Authority → List ℕ
signal_text site signal authority = codes "signal " ++ (signal_word site signal ++ 32 ∷ authority_text site authority)

abbrev pub known_text : Site → KnownThing → List ℕ
known_text site (Link node state) = codes "link " ++ (node_word site node ++ 32 ∷ link_word state)
known_text site (Section section occupancy) = codes "section " ++ (section_word site section ++ 32 ∷ known_occupancy_word occupancy)
known_text site (Point point side) = codes "point " ++ (point_word site point ++ 32 ∷ known_side_word side)
known_text site (Signal signal authority) = signal_text site signal authority
known_text site (Indicates signal aspect) = codes "indicates " ++ (signal_word site signal ++ 32 ∷ aspect_word aspect)
known_text site (Route route is_set) = codes "route " ++ (route_word site route ++ 32 ∷ route_state_word is_set)
known_text site (Released route) = codes "route " ++ (route_word site route ++ codes " released")
known_text site (Closing thing is_closed) = closing_text site thing is_closed
known_text site (Counted command count) = codes "counted " ++ (auxiliary_word command ++ 32 ∷ decimal count)
known_text site Holding = codes "holding"
known_text site WaitingForResume = codes "waiting for resume"

abbrev pub operator_text : Site → OperatorLine → List ℕ
operator_text site Accepted = codes "accepted"
operator_text site (Refused refusal) = refusal_text site refusal
operator_text site (Known known) = known_text site known
