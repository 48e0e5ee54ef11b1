-- Two rounds at work, in the first of which the server gives an item, or the client says something.
use Rattle.std.specs.Prelude.{◌≡◌, ℕ, true, List, ◌∷◌, ◌++◌, ◌<◌, ◌≤◌, is_ok}
use Rattle.rasta_core_spec.specs.Calls.{answer_to_send}
use Rattle.rasta_core_spec.specs.identity.Role.TheVariants as role
use Rattle.rasta_core_spec.specs.Each.{Each}
use Rattle.rasta_core_spec.specs.Ends.{EndState, Sends, reading_of}
use Rattle.rasta_core_spec.specs.Events.{Event, Calls, run}
use Rattle.rasta_core_spec.specs.Names.{Names}
use Rattle.rasta_core_spec.specs.Run.{Ends, later}
use Rattle.rasta_core_recovery.specs.Rounds.{Flow}
use Rattle.rasta_core_recovery.specs.Work.{HaveRoom, IsAtWork, LeavesOpen, work_round}

-- a round at work in which nothing closes an end, and none comes to the limit of PDUs
pub record StaysAtWork (names : Names) (f : Flow) (calls : List Event) : Type 0 where
  pub work : IsAtWork names f calls
  pub opens : Each LeavesOpen calls
  pub room : HaveRoom calls (later 10000 10000 10000 f.ends)

-- the server is given an item after these calls, and before those
abbrev pub with_reply : List Event → List ℕ → List Event → List Event
with_reply front item rest = front ++ Calls role.Server (Sends item) ∷ rest

-- two ends in a round, after these calls of it
abbrev pub in_round : List Event → Flow → Ends
in_round front f = run front (later 10000 10000 10000 f.ends)

-- an end accepts an item
abbrev pub Accepts : EndState → Type 0
Accepts end = is_ok (answer_to_send (reading_of end.clock) end.link) ≡ true

-- the client says something in a round of these calls, after the first of them
abbrev pub ClientSpeaks : List Event → List Event → Flow → Type 0
ClientSpeaks front rest f = (in_round front f).client.link.sent < (work_round (front ++ rest) f).ends.client.link.sent

-- in so many rounds a client that is up says something: its heartbeat is due 300 ms after what it said last
abbrev pub speaking_rounds : ℕ
speaking_rounds = 30

-- Two rounds at work of a client that is given nothing in them, and says something in the second.
pub record SpeaksAlone (names : Names) (f : Flow) (one two : List Event) : Type 0 where
  pub first : StaysAtWork names f one
  pub second : StaysAtWork names (work_round one f) two
  pub quiet : (work_round two (work_round one f)).ends.client.link.given ≤ f.ends.client.link.given
  pub speaks : (work_round one f).ends.client.link.sent < (work_round two (work_round one f)).ends.client.link.sent
