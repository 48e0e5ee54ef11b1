-- The line of an event: its words, parted by single spaces. Numbers have no leading zeros, and hexadecimal
-- digits are in lower case.
use Rattle.std.specs.Prelude.{ℕ, ◌==◌, ◌&&◌, nat_lt, nat_le, if◌then◌else◌, Option, Some, None, List, [], ◌∷◌, ◌++◌, length, slice_get, codes}
use Rattle.std.specs.Option.{option_map}
use Rattle.std.specs.List.{join_with_byte}
use Rattle.std.specs.Fmt.{decimal}
use Rattle.replay_words.specs.Read.{hex_word}
use Rattle.ixl_spec.specs.layout.Entries.{Site}
use Rattle.ixl_spec.specs.declared.command.Command.{Command}
use Rattle.ixl_spec.specs.declared.command.Command.TheVariants as command
use Rattle.ixl_spec.specs.closings.Words.{name_word, side_of, side_word}
use Rattle.ixl_spec.specs.sci_telegram.declared.message.Side.{Side}
use Rattle.ixl_spec.specs.sci_telegram.declared.message.Occupancy.{Occupancy}
use Rattle.ixl_spec.specs.sci_telegram.declared.message.Occupancy.TheVariants as occupancy
use Rattle.ixl_spec.specs.sci_telegram.Words.{position_word}
use Rattle.ixl_spec.specs.rasta_core.time.TheConstants.{LATEST_CLOCK}
use Rattle.ixl_spec.specs.rasta_pdu.declared.writer.TheConstants.{LONGEST_DATAGRAM}
use Rattle.simulator_event.specs.declared.event.Event.{Event}
use Rattle.simulator_event.specs.declared.event.Event.TheVariants.{Request, Occupy, Tick, Time, Deliver, Lose, Reach, Restart}
use Rattle.replay_lines.specs.Names.{node_names, point_word, route_word}

-- the word for a side, where there is one
abbrev pub side_words : Option Side → List (List ℕ)
side_words None = []
side_words (Some side) = side_word side ∷ []

abbrev pub command_words : Site → Command → List (List ℕ)
command_words site (command.Request route) = codes "set" ∷ route_word site route ∷ []
command_words site (command.Cancel route) = codes "cancel" ∷ route_word site route ∷ []
command_words site command.Resume = codes "resume" ∷ []
command_words site (command.Release route) = codes "release" ∷ route_word site route ∷ []
command_words site (command.Move point side) = codes "move" ∷ point_word site point ∷ side_word side ∷ []
command_words site (command.Close named) = codes "close" ∷ name_word site named ∷ side_words (side_of named)
command_words site (command.Open named) = codes "open" ∷ name_word site named ∷ side_words (side_of named)

-- an event and a contact say by a verb what becomes of a section
abbrev pub occupancy_verb : Occupancy → List ℕ
occupancy_verb occupancy.Occupied = codes "occupy"
occupancy_verb occupancy.Clear = codes "clear"

-- a word `NODE=E` for each clock that goes on otherwise than true time
abbrev pub clock_words : ℕ → List (List ℕ) → List ℕ → List (List ℕ)
clock_words elapsed (name ∷ names) (step ∷ steps) =
    if step == elapsed then clock_words elapsed names steps
    else (name ++ 61 ∷ decimal step) ∷ clock_words elapsed names steps
clock_words elapsed names steps = []

abbrev pub lose_words : List ℕ → Option (List (List ℕ))
lose_words bytes =
    if nat_lt 0 (length bytes) && nat_le (length bytes) LONGEST_DATAGRAM then Some (codes "lose" ∷ hex_word bytes ∷ []) else None

-- the words of an event; none where a node, a section or a point isn't there, or a number or a length lies outside its bounds
abbrev pub event_words : Site → Event → Option (List (List ℕ))
event_words site (Request of) = Some (command_words site of)
event_words site (Occupy section occupancy) = option_map (λ name. occupancy_verb occupancy ∷ name ∷ []) (slice_get site.sections section.0)
event_words site (Tick node) = option_map (λ name. codes "tick" ∷ name ∷ []) (slice_get (node_names site) node.0)
event_words site (Time elapsed steps) =
    if length steps == length (node_names site)
    then Some (codes "time" ∷ decimal elapsed ∷ clock_words elapsed (node_names site) steps)
    else None
event_words site (Deliver node bytes) =
    if nat_le (length bytes) LONGEST_DATAGRAM
    then option_map (λ name. codes "deliver" ∷ name ∷ hex_word bytes ∷ []) (slice_get (node_names site) node.0)
    else None
event_words site (Lose bytes) = lose_words bytes
event_words site (Reach point position) =
    option_map (λ p. codes "reach" ∷ p.name ∷ position_word position ∷ []) (slice_get site.points point.0)
event_words site (Restart node clock number) =
    if nat_le clock LATEST_CLOCK
    then option_map (λ name. codes "restart" ∷ name ∷ decimal clock ∷ decimal number ∷ []) (slice_get (node_names site) node.0)
    else None

-- the line of an event, if it has one
abbrev pub event_line : Site → Event → Option (List ℕ)
event_line site event = option_map (join_with_byte 32) (event_words site event)
