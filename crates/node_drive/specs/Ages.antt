-- How old what a process hears and sends can be, told of its calls.
use Rattle.std.specs.Prelude.{◌≡◌, ◌≤◌, ◌<◌, ◌+◌, ℕ, true, List, [], ◌∷◌, ◌++◌, map, IsSomeAnd}
use Rattle.node_drive.specs.Calls.{Call, Reads, AsksDatagram, Empty, ThrowsAway, Sends}
use Rattle.node_drive.specs.Kinds.{Kind}
use Rattle.node_drive.specs.Lives.{came}
use Rattle.node_drive.specs.Rounds.{Coming, Standing}
use Rattle.node_drive.specs.Seen.{seen_with}
use Rattle.node_drive.specs.Waiting.{Addressed, Waiting}
use Rattle.node_drive.specs.declared.socket_seen.SocketSeen.{SocketSeen}

-- ---- what is heard

-- a call after which none was seen to wait that came 90 ms before or more
abbrev pub FindsEmpty : Call → Type 0
FindsEmpty (AsksDatagram Empty) = Unit {0}
FindsEmpty (ThrowsAway count true) = Unit {0}
FindsEmpty call = ⊥

-- One of these calls saw none wait, and stands after this reading.
pub record WasEmptyBehind (reading : ℕ) (calls : List Call) : Type 0 where
  pub before : List Call
  pub between : List Call
  pub found : Call
  pub after : List Call
  pub is_found : FindsEmpty found
  pub calls_are : calls ≡ before ++ Reads reading ∷ (between ++ found ∷ after)

-- A datagram of which the clock is read now, once it has come, has waited for at most 400 ms since one of these calls saw none wait,
-- and came less than 90 ms before it if it waited then.
pub record WaitedBriefly (now : ℕ) (calls : List Call) : Type 0 where
  pub empty : ℕ
  pub brief : now ≤ empty + 400
  pub was_empty : WasEmptyBehind empty calls

-- ---- what is sent

-- one of these
pub record IsIn {A : Type 0} (one : A) (all : List A) : Type 0 where
  pub before : List A
  pub after : List A
  pub all_are : all ≡ before ++ one ∷ after

-- Of each datagram that these calls send this holds, with the last reading before.
abbrev pub SendsBy : (ℕ → Addressed → Type 0) → SocketSeen → List Call → Type 0
SendsBy holds seen [] = Unit {0}
SendsBy holds seen (Sends to bytes ∷ calls) = IsSomeAnd seen.latest (λ now. holds now (to, bytes)) × SendsBy holds seen calls
SendsBy holds seen (call ∷ calls) = SendsBy holds (seen_with call seen) calls

module _ {State Input : Type 0} (kind : Kind State Input) where
  -- what the steps of these inputs hand out, each with the reading of its step
  abbrev pub handed_by : List (ℕ × Input) → State → List (ℕ × Addressed)
  handed_by [] state = []
  handed_by (one ∷ others) state = map (λ datagram. (one.0, datagram)) (kind.hands one.0 one.1 state) ++ handed_by others (kind.after one.0 one.1 state)

  -- with what waited before these came
  abbrev pub to_leave : List (ℕ × Coming) → Standing State → List (ℕ × Addressed)
  to_leave comings standing = map (λ (one : Waiting). (one.since, one.datagram)) standing.course.waiting ++ handed_by (came kind comings standing) standing.state

  -- A datagram that is sent after a reading is that of a step less than 500 ms before it.
  pub record SentInTime (comings : List (ℕ × Coming)) (standing : Standing State) (now : ℕ) (datagram : Addressed) : Type 0 where
    pub since : ℕ
    pub in_time : now < since + 500
    pub handed : IsIn (since, datagram) (to_leave comings standing)
