-- Until when an end is caught up: a reading of its clock that an observer keeps beside its link.
use Rattle.std.specs.Prelude.{ℕ, List, [], ◌∷◌, Bool, true, false, if◌then◌else◌}
use Rattle.rasta_core_spec.specs.Clock.{alive_until}
use Rattle.rasta_core_spec.specs.State.{LinkState}
use Rattle.rasta_core_spec.specs.Events.{Event, happened}
use Rattle.rasta_core_spec.specs.Run.{Ends, end_of}
use Rattle.rasta_core_spec.specs.identity.Role.{Role}
use Rattle.rasta_core_spec.specs.phase.Phase.{Phase}
use Rattle.rasta_core_spec.specs.phase.Phase.TheVariants as phase

-- the end misses a PDU: it has asked for it again, or is being answered
abbrev pub is_recovering : Phase → Bool
is_recovering phase.Closed = false
is_recovering phase.Start = false
is_recovering phase.Up = false
is_recovering phase.RetransmissionRequested = true
is_recovering phase.RetransmissionRunning = true

-- how an observer goes on from what it kept, when it sees a link
abbrev pub Rule : Type 0
Rule = ℕ → LinkState → ℕ

-- An end is caught up as long as its link lives; while it misses a PDU, as long as it was before.
abbrev pub caught_up : Rule
caught_up kept link = if is_recovering link.phase then kept else alive_until link

-- what is kept beside an end after a list of events: the observer sees its link when it is made, and after each event
abbrev pub watched : Rule → Role → List Event → Ends → ℕ → ℕ
watched rule who [] ends kept = kept
watched rule who (first ∷ others) ends kept = watched rule who others (happened first ends) (rule kept (end_of who (happened first ends)).link)

-- until when an end is caught up, by a rule, after a list of events from its creation on
abbrev pub until_by : Rule → Role → List Event → Ends → ℕ
until_by rule who events ends = watched rule who events ends (alive_until (end_of who ends).link)

abbrev pub caught_up_until : Role → List Event → Ends → ℕ
caught_up_until = until_by caught_up

-- A wrong rule: whatever lengthens the life of a link counts, a retransmission that runs too.
abbrev pub alive : Rule
alive kept link = alive_until link
