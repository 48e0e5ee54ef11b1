-- The commands of `station`: the word of each, and what it takes.
use Rattle.std.specs.Prelude.{ℕ, Bool, ◌||◌, true, false, List, [], ◌∷◌, Option, Some, None, codes}
use Rattle.std.specs.Str.{bytes_eq}

-- How an argument is given: a file, by its place; an option, with a word, or with a number from a lowest to a highest one;
-- a switch.
pub data Kind : Type 0 where
  File : Kind
  Word : Kind
  Number : ℕ → ℕ → Kind
  Switch : Kind

pub record Argument : Type 0 where
  pub name : List ℕ
  pub kind : Kind
  pub is_needed : Bool

-- an argument that has to be given, and one that may be
abbrev pub must : Kind → List ℕ → Argument
must kind name = record { name = name; kind = kind; is_needed = true }

abbrev pub may : Kind → List ℕ → Argument
may kind name = record { name = name; kind = kind; is_needed = false }

-- What is said of an argument: the word or the number that is given, if one is, or whether the switch is on.
pub data Value : Type 0 where
  Worded : Option (List ℕ) → Value
  Counted : Option ℕ → Value
  Switched : Bool → Value

-- What is said on a command line: the word of a command, with what is said of each of its arguments, in their order.
abbrev pub Said : Type 0
Said = List ℕ × List Value

-- A command, with its arguments in their order. Where all that it needs is given, it asks for something, if its values pass `asks`.
pub record Command : Type 0 where
  pub word : List ℕ
  pub arguments : List Argument
  pub asks : List Value → Bool

-- a command that asks for something where all that it needs is given
abbrev pub command : List ℕ → List Argument → Command
command word arguments = record { word = word; arguments = arguments; asks = λ values. true }

-- `decode` takes either a datagram, with a layout or without one, or a layout and a record, with the name of a node or without one
abbrev pub asks_to_decode : List Value → Bool
asks_to_decode (Worded (Some hex) ∷ Worded layout ∷ Worded None ∷ Worded None ∷ Worded None ∷ []) = true
asks_to_decode (Worded None ∷ Worded None ∷ Worded (Some file) ∷ Worded (Some recording) ∷ Worded name ∷ []) = true
asks_to_decode _ = false

-- `routes` takes one of two rules of approach, or none
abbrev pub asks_for_routes : List Value → Bool
asks_for_routes (layout ∷ signals ∷ Worded None ∷ more) = true
asks_for_routes (layout ∷ signals ∷ Worded (Some rule) ∷ more) = bytes_eq rule (codes "signal") || bytes_eq rule (codes "berth")
asks_for_routes _ = false

-- `line` takes one word for what is done with a line
abbrev pub asks_for_line : List Value → Bool
asks_for_line (Worded (Some action) ∷ more) = bytes_eq action (codes "begin")
asks_for_line _ = false

-- the file of a layout, a second file, and the name or the address of a node
abbrev pub layout : Argument
layout = must File (codes "FILE")

abbrev pub second : Argument
second = must File (codes "SECOND")

abbrev pub node : Argument
node = may Word (codes "node")

-- how long something runs, and the moments of a chart, in milliseconds
abbrev pub time : Kind
time = Number 1000 600000

abbrev pub moment : Kind
moment = Number 0 18446744073709551

-- how many bytes a part of a record has, and the file that ends a run
abbrev pub record_size : Argument
record_size = may (Number 4096 4294967296) (codes "record-size")

abbrev pub stop_file : Argument
stop_file = may Word (codes "stop-file")

-- the commands, in the order in which the help has them
abbrev pub commands : List Command
commands =
    command (codes "check") (layout ∷ may Switch (codes "explain") ∷ may Switch (codes "complete") ∷ may Switch (codes "digest") ∷ [])
    ∷ record (command (codes "routes") (layout ∷ may Word (codes "from") ∷ may Word (codes "approach") ∷ may Switch (codes "write") ∷ [])) { asks = asks_for_routes }
    ∷ command (codes "draw") (layout ∷ may (Number 1 65535) (codes "port") ∷ [])
    ∷ command (codes "plan") (layout ∷ may Word (codes "route") ∷ may Word (codes "picture") ∷ [])
    ∷ command (codes "table") (layout ∷ may Switch (codes "csv") ∷ [])
    ∷ command (codes "sim") (layout ∷ second ∷ [])
    ∷ command (codes "run") (layout ∷ must Word (codes "script") ∷ must Word (codes "record") ∷ record_size ∷ must time (codes "for") ∷ stop_file ∷ [])
    ∷ command (codes "panel") (layout ∷ may (Number 1 65535) (codes "port") ∷ may Word (codes "record") ∷ record_size ∷ may time (codes "for") ∷ stop_file ∷ node ∷ [])
    ∷ command (codes "replay") (layout ∷ second ∷ node ∷ [])
    ∷ command (codes "chart") (layout ∷ second ∷ node ∷ may moment (codes "from") ∷ may moment (codes "to") ∷ [])
    ∷ record (command (codes "decode") (may Word (codes "hex") ∷ may Word (codes "layout") ∷ may File (codes "FILE") ∷ may File (codes "SECOND") ∷ node ∷ [])) { asks = asks_to_decode }
    ∷ command (codes "capture") (layout ∷ second ∷ must File (codes "OUT") ∷ may Word (codes "addresses") ∷ node ∷ may Switch (codes "force") ∷ [])
    ∷ command (codes "node") (layout ∷ must File (codes "NAME") ∷ must Word (codes "addresses") ∷ may Word (codes "operator") ∷ may Word (codes "record") ∷ record_size
    ∷ may Word (codes "closings") ∷ may Switch (codes "keep-locks") ∷ may (Number 0 9000000000000) (codes "clock") ∷ may (Number 0 80) (codes "hold")
    ∷ may time (codes "for") ∷ stop_file ∷ [])
    ∷ record (command (codes "line") (must File (codes "ACTION") ∷ layout ∷ must File (codes "NAME") ∷ may Switch (codes "again") ∷ [])) { asks = asks_for_line }
    ∷ []
