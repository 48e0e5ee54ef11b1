-- What each request says: the word of its command, and a value for each of its arguments, in the order of the table.
use Rattle.std.specs.Prelude.{ℕ, List, [], ◌∷◌, Some, None, codes, option_copied}
use Rattle.std.specs.Option.{option_map}
use Rattle.station_command.specs.Commands.{Counted, Said, Switched, Value, Worded}
use Rattle.station_command.specs.declared.request.Approach.{Approach}
use Rattle.station_command.specs.declared.request.Approach.TheVariants as approaches
use Rattle.station_command.specs.declared.request.Request.{Request}
use Rattle.station_command.specs.declared.request.Request.TheVariants as requests

-- a word that is needed
abbrev pub one : List ℕ → Value
one word = Worded (Some word)

abbrev pub none : Value
none = Worded None

-- the word of a rule of approach
abbrev pub word_of : Approach → List ℕ
word_of approaches.Signal = codes "signal"
word_of approaches.Berth = codes "berth"

abbrev pub says : Request → Said
says (requests.Check o) = (codes "check", one o.layout.now ∷ Switched o.explained ∷ Switched o.complete ∷ Switched o.digest ∷ [])
says (requests.Routes o) =
    (codes "routes", one o.layout.now ∷ Worded (option_copied o.from) ∷ Worded (option_map word_of o.approach) ∷ Switched o.write ∷ [])
says (requests.Draw o) = (codes "draw", one o.layout.now ∷ Counted o.port ∷ [])
says (requests.Plan o) = (codes "plan", one o.layout.now ∷ Worded (option_copied o.route) ∷ Worded (option_copied o.picture) ∷ [])
says (requests.Table o) = (codes "table", one o.layout.now ∷ Switched o.csv ∷ [])
says (requests.Sim o) = (codes "sim", one o.layout.now ∷ one o.events.now ∷ [])
says (requests.Run o) = (
  codes "run",
  one o.layout.now ∷ one o.script.now ∷ one o.record.now ∷ Counted o.record_size ∷ Counted (Some o.for_ms) ∷ Worded (option_copied o.stop_file) ∷ [],
)
says (requests.Panel o) = (
  codes "panel",
  one o.layout.now ∷ Counted o.port ∷ Worded (option_copied o.record) ∷ Counted o.record_size ∷ Counted o.for_ms
      ∷ Worded (option_copied o.stop_file) ∷ Worded (option_copied o.node) ∷ [],
)
says (requests.Replay o) = (codes "replay", one o.layout.now ∷ one o.recording.now ∷ Worded (option_copied o.node) ∷ [])
says (requests.Chart o) =
    (codes "chart", one o.layout.now ∷ one o.recording.now ∷ Worded (option_copied o.node) ∷ Counted o.from ∷ Counted o.to ∷ [])
says (requests.Decode o) = (codes "decode", one o.hex.now ∷ Worded (option_copied o.layout) ∷ none ∷ none ∷ none ∷ [])
says (requests.DecodeSession o) = (codes "decode", none ∷ none ∷ one o.layout.now ∷ one o.recording.now ∷ Worded (option_copied o.node) ∷ [])
says (requests.Capture o) = (
  codes "capture",
  one o.layout.now ∷ one o.recording.now ∷ one o.out.now ∷ Worded (option_copied o.addresses) ∷ Worded (option_copied o.node)
      ∷ Switched o.force ∷ [],
)
says (requests.Node o) = (
  codes "node",
  one o.layout.now ∷ one o.name.now ∷ one o.addresses.now ∷ Worded (option_copied o.operator) ∷ Worded (option_copied o.record)
      ∷ Counted o.record_size ∷ Worded (option_copied o.closings) ∷ Switched o.keep_locks ∷ Counted o.clock ∷ Counted o.hold ∷ Counted o.for_ms
      ∷ Worded (option_copied o.stop_file) ∷ [],
)
says (requests.BeginLine o) = (codes "line", one (codes "begin") ∷ one o.railway.now ∷ one o.line.now ∷ Switched o.again ∷ [])
