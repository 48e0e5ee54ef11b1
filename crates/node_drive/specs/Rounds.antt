-- What the process of a node does with what comes, one after another.
use Rattle.std.specs.Prelude.{ℕ, suc, nat_le, nat_lt, if◌then◌else◌, Bool, true, false, List, [], ◌∷◌, ◌++◌, map, min, ◌+◌, Option, Some, None}
use Rattle.node_lines.specs.replay_words.declared.fault.Fault.TheVariants.{Number}
use Rattle.node_lines.specs.simulator_event.layout.declared.ids.NodeId.{NodeId}
use Rattle.node_lines.specs.Orders.{order_text}
use Rattle.node_lines.specs.declared.order.Order.{Order}
use Rattle.node_drive.specs.Same.{is_same_order}
use Rattle.node_drive.specs.Waiting.{Addressed, Waiting, leaving, none_waits, waiting_of, waiting_on}
use Rattle.node_drive.specs.Calls.{Call, Rests, Reads, AsksListener, AsksLine, AsksDatagram, ThrowsAway, Writes, Sends, Complains, Keeps, Text, Nothing, Closed as ClosedLine, Came, Empty, Failed}
use Rattle.node_drive.specs.Kinds.{Kind, Meaning, AskedToKeep, InForce, Comes, Faulty, said_if}
use Rattle.node_drive.specs.Seen.{all_seen, is_heard}
use Rattle.node_drive.specs.declared.outside.Origin.{Origin}
use Rattle.node_drive.specs.declared.outside.ThrownAway.{ThrownAway}
use Rattle.node_drive.specs.declared.socket_seen.SocketSeen.{SocketSeen}

-- ---- how far a process has come

-- its lines and datagrams
pub record CourseState : Type 0 where
  -- how many lines came
  pub heard : ℕ
  -- how many orders were written, the last of them, and the number of the last that is in force
  pub written : ℕ
  pub order : Option Order
  pub in_force : ℕ
  pub waiting : List Waiting
  -- how many datagrams came from elsewhere than from a partner, and how many weren't heard, since they may have been too old
  pub strangers : ℕ
  pub too_old : ℕ
  -- what was seen of the clock and the socket
  pub seen : SocketSeen

-- and its node
pub record Standing (State : Type 0) : Type 0 where
  pub state : State
  pub course : CourseState

-- what was called, and how far the process has come then
abbrev pub Done : Type 0 → Type 0
Done Now = List Call × Now

-- ---- orders

-- the order that is to be written: none where it is that of the last line
abbrev pub new_order : Option Order → Option Order → Option Order
new_order last None = None
new_order None (Some order) = Some order
new_order (Some last) (Some order) = if is_same_order last order then None else Some order

-- how many orders were written then
abbrev pub count : Option Order → ℕ → ℕ
count None written = written
count (Some order) written = suc written

abbrev pub line_of : ℕ → ℕ → Option Order → List Call
line_of number now None = []
line_of number now (Some order) = Writes (order_text (record { number = number; reading = now; order = order })) ∷ []

abbrev pub last_order : Option Order → Option Order → Option Order
last_order old None = old
last_order old (Some order) = Some order

-- ---- datagrams

abbrev pub sent : List Waiting → List Call
sent leaving = map (λ (one : Waiting). Sends one.datagram.0 one.datagram.1) leaving

-- these were called
abbrev pub with_calls : List Call → CourseState → CourseState
with_calls calls course = record course { seen = all_seen calls course.seen }

-- the clock is read once more where a datagram waits, and only there
abbrev pub read_for : ℕ → List Waiting → List Call
read_for now waiting = if none_waits waiting then [] else Reads now ∷ []

-- At this reading those whose line is in force leave, and those that waited too long are dropped.
abbrev pub released : ℕ → CourseState → Done CourseState
released now course =
    let reads = read_for now course.waiting
    in (reads ++ sent (leaving now course.in_force course.waiting), record (with_calls reads course) { waiting = waiting_on now course.in_force course.waiting })

abbrev pub later : ℕ → ℕ → ℕ
later one other = if nat_lt one other then other else one

-- An order that was written is in force, and so is each before it. A number that no line has is a fault.
abbrev pub put_in_force : ℕ → CourseState → Done CourseState
put_in_force number course =
    if nat_le number course.written
    then ([], record course { in_force = later course.in_force number })
    else (Complains course.heard Number ∷ [], course)

-- ---- a step

-- how far the process has come with the order and the datagrams of a step, before any datagram leaves
abbrev pub with_order : Option Order → CourseState → CourseState
with_order new course = record course { written = count new course.written; order = last_order course.order new }

abbrev pub with_datagrams : ℕ → List Addressed → CourseState → CourseState
with_datagrams now handed course = record course { waiting = course.waiting ++ waiting_of course.written now handed }

-- it is asked to be kept, and answered so
abbrev pub kept_by : Bool → Option AskedToKeep → List Call
kept_by kept None = []
kept_by kept (Some asked) = Keeps asked.all kept ∷ []

-- What a step asks for is kept or not, then its lines are written, and its datagrams wait.
abbrev pub performed : ℕ → Bool → Option AskedToKeep → List (List ℕ) → Option Order → List Addressed → CourseState → Done CourseState
performed now kept keeps said order handed course =
    let new = new_order course.order order
    in (kept_by kept keeps ++ (map Writes (said_if kept keeps said) ++ line_of (count new course.written) now new), with_datagrams now handed (with_order new course))

-- what counts up to the largest number of 64 bits, and stays there
abbrev pub one_more : ℕ → ℕ
one_more number = if nat_lt number 18446744073709551615 then suc number else number

abbrev pub many_more : ℕ → ℕ → ℕ
many_more count number = min (number + count) 18446744073709551615

-- ---- what comes

-- What was answered after a coming: of each of its steps in their order whether what it asked for is kept, where it asked for
-- something; and the reading at which what waits leaves, once all is done that the coming does.
pub record Ends : Type 0 where
  pub kept : List Bool
  pub leaves : ℕ

-- of the next step, and of those after it
abbrev pub next_kept : List Bool → Bool
next_kept [] = true
next_kept (kept ∷ others) = kept

abbrev pub later_kept : List Bool → List Bool
later_kept [] = []
later_kept (kept ∷ others) = others

pub data Coming : Type 0 where
  RoundBegins : Coming
  -- it was asked whether an operator began to listen
  Listened : (began : Bool) → Coming
  -- a line, without its line feed; that there was none; or that none comes any more
  Line : (text : List ℕ) (ends : Ends) → Coming
  NoLine : Coming
  LinesEnd : Coming
  -- A datagram, and what was thrown away after it where it isn't heard; that none was seen to wait; or that the call failed.
  Datagram : (origin : Origin) (bytes : List ℕ) (thrown : ThrownAway) (ends : Ends) → Coming
  NoDatagram : Coming
  FailedDatagram : Coming
  Tick : (ends : Ends) → Coming

-- After which calls it comes. The clock is read once an input has come.
abbrev pub asked : ℕ → Coming → List Call
asked now RoundBegins = Rests ∷ Reads now ∷ []
asked now (Listened began) = AsksListener began ∷ []
asked now (Line text ends) = AsksLine (Text text) ∷ Reads now ∷ []
asked now NoLine = AsksLine Nothing ∷ []
asked now LinesEnd = AsksLine ClosedLine ∷ []
asked now (Datagram origin bytes thrown ends) = AsksDatagram (Came (origin, bytes)) ∷ Reads now ∷ []
asked now NoDatagram = AsksDatagram Empty ∷ []
asked now FailedDatagram = AsksDatagram Failed ∷ []
asked now (Tick ends) = Reads now ∷ []

module _ {State : Type 0} where
  -- the course goes on, and the node stays as it is
  abbrev pub of_course : State → Done CourseState → Done (Standing State)
  of_course state done = (done.0, record { state = state; course = done.1 })

  -- one more line came
  abbrev pub heard_one : Standing State → Standing State
  heard_one standing = record standing { course = record standing.course { heard = suc standing.course.heard } }

  -- one more datagram came from elsewhere than from a partner
  abbrev pub counted : Standing State → Standing State
  counted standing = record standing { course = record standing.course { strangers = one_more standing.course.strangers } }

  -- these were called
  abbrev pub having_called : List Call → Standing State → Standing State
  having_called calls standing = record standing { course = with_calls calls standing.course }

  -- A datagram that may be too old isn't heard. It is counted, with those that wait after it, which are thrown away.
  abbrev pub not_heard : ThrownAway → Standing State → Done (Standing State)
  not_heard thrown standing =
      let throws = ThrowsAway thrown.count thrown.found_empty ∷ []
      in let course = with_calls throws standing.course
      in (throws, record standing { course = record course { too_old = many_more thrown.count (one_more course.too_old) } })

  -- at the end of what a coming does those leave that may
  abbrev pub then_released : ℕ → Done (Standing State) → Done (Standing State)
  then_released leaves done =
      let left = released leaves done.1.course
      in (done.0 ++ left.0, record done.1 { course = left.1 })

module _ {State Input : Type 0} (kind : Kind State Input) where
  abbrev pub step : ℕ → Bool → Input → Standing State → Done (Standing State)
  step now kept input standing =
      let state = kind.after now input standing.state
      in let done = performed now kept (kind.keeps now input standing.state) (kind.says now input standing.state) (kind.order state) (kind.hands now input standing.state) standing.course
      in (done.0, record { state = state; course = done.1 })

  abbrev pub steps : ℕ → List Bool → List Input → Standing State → Done (Standing State)
  steps now kept [] standing = ([], standing)
  steps now kept (input ∷ inputs) standing =
      let first = step now (next_kept kept) input standing
      in let others = steps now (later_kept kept) inputs first.1
      in (first.0 ++ others.0, others.1)

  -- ---- lines

  abbrev pub told : ℕ → List Bool → Meaning Input → Standing State → Done (Standing State)
  told now kept (InForce number) standing = of_course standing.state (put_in_force number standing.course)
  told now kept (Comes answer inputs) standing =
      let done = steps now kept inputs standing
      in (map Writes answer ++ done.0, done.1)
  told now kept (Faulty fault) standing = (Complains standing.course.heard fault ∷ [], standing)

  -- a line, which has the next number
  abbrev pub line : ℕ → List Bool → List ℕ → Standing State → Done (Standing State)
  line now kept text standing = told now kept (kind.meaning now text standing.state) (heard_one standing)

  -- ---- datagrams

  -- what comes from the address of a partner is taken
  abbrev pub is_taken : Option NodeId → Bool
  is_taken None = false
  is_taken (Some node) = kind.is_partner node

  -- and all else is dropped, and counted
  abbrev pub datagram : ℕ → Bool → Origin → List ℕ → Standing State → Done (Standing State)
  datagram now kept origin bytes standing = if is_taken origin.from then step now kept (kind.datagram bytes) standing else ([], counted standing)

  -- ---- all of it

  -- what is done once it was asked for
  abbrev pub acts : ℕ → Coming → Standing State → Done (Standing State)
  acts now (Line text ends) standing = then_released ends.leaves (line now ends.kept text standing)
  acts now (Datagram origin bytes thrown ends) standing =
      if is_heard now standing.course.seen then then_released ends.leaves (datagram now (next_kept ends.kept) origin bytes standing) else not_heard thrown standing
  acts now (Listened true) standing = (map Writes (kind.stands now standing.state), standing)
  acts now (Tick ends) standing = then_released ends.leaves (step now (next_kept ends.kept) kind.tick standing)
  acts now coming standing = ([], standing)

  abbrev pub comes : ℕ → Coming → Standing State → Done (Standing State)
  comes now coming standing = acts now coming (having_called (asked now coming) standing)

  -- one after another
  abbrev pub all_come : List (ℕ × Coming) → Standing State → Done (Standing State)
  all_come [] standing = ([], standing)
  all_come (one ∷ others) standing =
      let first = comes one.0 one.1 standing
      in let more = all_come others first.1
      in ((asked one.0 one.1 ++ first.0) ++ more.0, more.1)
