-- How a node's record goes on, line by line, and what each line tells of a lane: at most one thing.
use Rattle.std.specs.Prelude.{ℕ, ◌==◌, nat_le, if◌then◌else◌, List, codes, Option, Some, None, Result, Ok, Err}
use Rattle.std.specs.List.{after_first, before_first}
use Rattle.std.specs.Str.{bytes_eq}
use Rattle.control_table.specs.layout.Entries.{Site}
use Rattle.node_lines.specs.Orders.{order_line_said}
use Rattle.node_lines.specs.declared.order.Order.{Order}
use Rattle.node_lines.specs.declared.order.OrderLine.{OrderLine}
use Rattle.replay_words.specs.Cut.{words}
use Rattle.replay_words.specs.Read.{decimal}
use Rattle.replay_words.specs.declared.fault.Fault.{Fault}
use Rattle.node_record.specs.KnownTold.{known_said}
use Rattle.node_record.specs.OrdersTold.{fallen, is_renewed, told_by_order, until_of}
use Rattle.node_record.specs.ReportsTold.{report_said}
use Rattle.node_record.specs.declared.course.Course.{Course}
use Rattle.node_record.specs.declared.course.Step.{Step}
use Rattle.control_table.specs.layout.Nodes.{Node}
use Rattle.control_table.specs.layout.Nodes as nodes
use Rattle.node_record.specs.declared.told.Told.{Told}

-- nothing is read
abbrev pub first_course : Course
first_course = record { first = None; reading = 0; order = None }

-- this is told at the last reading
abbrev pub tells : Course → Option Told → Step
tells course told = record { course = course; time = course.reading; told = told }

-- ---- a reading

abbrev pub first_of : Option ℕ → ℕ → Option ℕ
first_of (Some first) reading = Some first
first_of None reading = Some reading

-- an order has ended by itself at this reading
abbrev pub ends : Node → Course → Order → ℕ → Step
ends whose course order until = record { course = record course { order = Some (fallen order) }; time = until; told = told_by_order whose (fallen order) }

-- unless it ends later, or not by itself
abbrev pub ends_by : Node → Course → Order → Option ℕ → Step
ends_by whose course order (Some until) = if nat_le until course.reading then ends whose course order until else tells course None
ends_by whose course order None = tells course None

-- the order that stands has ended by the last reading, or it stands
abbrev pub stands : Node → Course → Option Order → Step
stands whose course (Some order) = ends_by whose course order (until_of order)
stands whose course None = tells course None

abbrev pub read_at : Node → Course → ℕ → Step
read_at whose course reading = stands whose (record course { first = first_of course.first reading; reading = reading }) course.order

abbrev pub reads : Node → Course → Result ℕ Fault → Step
reads whose course (Ok reading) = read_at whose course reading
reads whose course (Err fault) = tells course None

-- ---- an order

-- an order is given; one that is the same as the one that stands, but for its end, tells nothing new
abbrev pub orders : Node → Course → Order → Step
orders whose course order = record {
  course = record course { order = Some order };
  time = course.reading;
  told = if is_renewed course.order order then None else told_by_order whose order;
}

abbrev pub ordered : Node → Course → Result OrderLine Fault → Step
ordered whose course (Ok line) = orders whose course line.order
ordered whose course (Err fault) = tells course None

-- ---- a line

-- what was written: what an interlocking knows, or the order of a controller
abbrev pub written : Site → Node → Course → List (List ℕ) → Step
written l nodes.Interlocking course words = tells course (known_said l words)
written l controller course words = ordered controller course (order_line_said words)

-- what was heard: a command, which changes no lane by itself, or what field equipment tells
abbrev pub heard : Site → Node → Course → List (List ℕ) → Step
heard l nodes.Interlocking course words = tells course None
heard l controller course words = tells course (report_said l controller words)

-- the first word of a line, and the text after it
abbrev pub parted : List ℕ → List ℕ × List ℕ
parted line = (before_first (λ b. b == 32) line, after_first (λ b. b == 32) line)

abbrev pub step_by : Site → Node → Course → List ℕ → List ℕ → Step
step_by l whose course kind text =
    if bytes_eq kind (codes "at") then reads whose course (decimal text)
    else if bytes_eq kind (codes "hears") then heard l whose course (words text)
    else if bytes_eq kind (codes "writes") then written l whose course (words text)
    else tells course None

abbrev pub step_of : Site → Node → Course → List ℕ → Step
step_of l whose course line = step_by l whose course (parted line).0 (parted line).1
