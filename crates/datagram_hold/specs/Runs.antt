-- Calls of a hold, one after another.
use Rattle.std.specs.Prelude.{◌≡◌, ◌<◌, ◌+◌, ℕ, zero, suc, List, [], ◌∷◌, ◌++◌, None}
use Rattle.std.specs.Option.{option_to_list}
use Rattle.datagram_hold.specs.Came.{Came}
use Rattle.datagram_hold.specs.Hold.{Handed, HoldState, asked, taken}

pub data Call : Type 0 where
  -- a datagram comes
  Takes : (one : Came) → Call
  -- it is asked at a reading for the next that is handed out
  Asks : (now : ℕ) → Call

abbrev pub called : Call → HoldState → Handed
called (Takes one) hold = taken one hold
called (Asks now) hold = asked now hold

-- what all of them hand out, in its order, and how the hold stands then
abbrev pub run : List Call → HoldState → List Came × HoldState
run [] hold = ([], hold)
run (call ∷ calls) hold =
    let first = called call hold
    in let more = run calls first.1
    in (option_to_list first.0 ++ more.0, more.1)

-- the datagrams that came by them
abbrev pub came : List Call → List Came
came [] = []
came (Takes one ∷ calls) = one ∷ came calls
came (Asks now ∷ calls) = came calls

-- so many questions at a reading
abbrev pub asks : ℕ → ℕ → List Call
asks zero now = []
asks (suc count) now = Asks now ∷ asks count now

-- at this reading nothing is left to be handed out
abbrev pub IsAskedOut : ℕ → HoldState → Type 0
IsAskedOut now hold = (asked now hold).0 ≡ None

-- it came less than so many milliseconds before a reading, or after it
abbrev pub IsYoung : ℕ → ℕ → Came → Type 0
IsYoung millis now one = now < one.at + millis
