-- How a node's process begins and ends.
use Rattle.std.specs.Prelude.{ℕ, suc, List, [], ◌∷◌, Option, Some, None}
use Rattle.node_lines.specs.Orders.{order_text}
use Rattle.node_lines.specs.declared.order.Order.{Order}
use Rattle.node_drive.specs.Calls.{Call, Writes}
use Rattle.node_drive.specs.Rounds.{CourseState}
use Rattle.node_drive.specs.Seen.{nothing_seen}

-- nothing came yet, nothing was written, nothing waits, and nothing was seen
abbrev pub first_course : CourseState
first_course = record { heard = 0; written = 0; order = None; in_force = 0; waiting = []; strangers = 0; too_old = 0; seen = nothing_seen }

-- at the end the equipment is told to rest, and nothing that waits leaves
abbrev pub last_line : ℕ → Option Order → CourseState → List Call
last_line now None course = []
last_line now (Some rest) course = Writes (order_text (record { number = suc course.written; reading = now; order = rest })) ∷ []
