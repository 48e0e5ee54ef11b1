-- What contracts inside the crate and of its traits say of the steps of a line. No promise names any of it.
use Rattle.std.specs.Prelude.{◌≡◌, ◌≤◌, ◌<◌, ℕ, Bool, true, false, List, [], ◌∷◌, ◌++◌, length, map}
use Rattle.node_drive.specs.Calls.{Arrival, Told}
use Rattle.node_drive.specs.Drives.{EndsDatagrams, Performs, Stops, Timed, datagram_in, line_in, most_in_a_round}
use Rattle.node_drive.specs.Seen.{is_heard}
use Rattle.node_drive.specs.Kinds.{Kind, NodeState, node_after}
use Rattle.node_drive.specs.Rounds.{Coming, CourseState, LinesEnd, NoLine, Standing}
use Rattle.node_drive.specs.Waiting.{Waiting, waiting_one}
use Rattle.node_drive.specs.declared.course.Delayed.{Delayed}

-- The first input that is left has come, and the others are left; or none is left, and the node is as it was.
abbrev pub StepsOn : {State Input : Type 0} → Kind State Input → ℕ → Bool → NodeState State Input → NodeState State Input → Type 0
StepsOn {State} {Input} kind now true old new = (input : Input) × (others : List Input) × (old.left ≡ input ∷ others) × (new ≡ node_after kind now input (record old { left = others }))
StepsOn {State} {Input} kind now false old new = (old.left ≡ []) × (new ≡ old)

-- what the code keeps of a datagram that waits
abbrev pub waiting_of_code : Delayed → Waiting
waiting_of_code one = waiting_one one.behind one.since (one.to, one.datagram.items)

-- a node and its course
abbrev pub standing_of : {State Input : Type 0} → NodeState State Input → CourseState → Standing State
standing_of node course = record { state = node.state; course = course }

-- that no line comes any more
abbrev pub closed_end : Bool → List (ℕ × Coming)
closed_end true = (0, LinesEnd) ∷ []
closed_end false = []

-- One line came, or there was none.
abbrev pub OneLine : {State Input : Type 0} → Kind State Input → Bool → Standing State → Standing State → Told → Told → Type 0
OneLine kind true old new told_old told_new = (one : Timed (List ℕ)) × Performs kind (line_in one ∷ []) old new told_old told_new
OneLine kind false old new told_old told_new = Performs kind ((0, NoLine) ∷ []) old new told_old told_new

-- It was cut off before a line, within one, or after the last.
abbrev pub OneLineCut : {State Input : Type 0} → Kind State Input → Standing State → Told → Told → Type 0
OneLineCut kind old told_old told_new = (lines : List (Timed (List ℕ))) × (closed : Bool) × (length lines ≤ 1) × Stops kind (map line_in lines ++ closed_end closed) old told_old told_new

-- One datagram was heard, or there was none that is.
abbrev pub OneDatagram : {State Input : Type 0} → Kind State Input → Bool → Standing State → Standing State → Told → Told → Type 0
OneDatagram kind true old new told_old told_new =
    (one : Timed Arrival) × (is_heard one.now old.course.seen ≡ true) × Performs kind (datagram_in one ∷ []) old new told_old told_new
OneDatagram kind false old new told_old told_new =
    (ends : List (ℕ × Coming)) × ((taken : ℕ) → taken < most_in_a_round → EndsDatagrams old.course.seen taken ends) × Performs kind ends old new told_old told_new

-- It was cut off within a datagram that is heard.
abbrev pub OneDatagramCut : {State Input : Type 0} → Kind State Input → Standing State → Told → Told → Type 0
OneDatagramCut kind old told_old told_new = (one : Timed Arrival) × (is_heard one.now old.course.seen ≡ true) × Stops kind (datagram_in one ∷ []) old told_old told_new
