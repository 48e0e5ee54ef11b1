-- The hold of one sender.
use Rattle.std.specs.Prelude.{ℕ, suc, ◌+◌, ◌-◌, min, nat_le, nat_lt, ◌&&◌, ◌||◌, not, if◌then◌else◌, Bool, false, List, [], ◌∷◌, length, insert, Option, Some, None}
use Rattle.std.specs.List.{list_any}
use Rattle.std.specs.Option.{option_map}
use Rattle.datagram_hold.specs.Came.{Came}
use Rattle.datagram_hold.specs.Sequence.{distance, is_ahead, is_behind, next_to, number_of}

-- How the hold of a sender stands.
pub record HoldState : Type 0 where
  -- for how many milliseconds a datagram waits for those before it; with 0 none waits
  pub millis : ℕ
  -- the number that is expected next, once something was handed out
  pub expected : Option ℕ
  -- those that wait, in the order of their numbers, and those of one number as they came
  pub held : List Came

-- What is expected once a number was handed out: the one after it, and what was expected before where it came again or late.
abbrev pub expected_after : Option ℕ → ℕ → Option ℕ
expected_after None number = Some (next_to number)
expected_after (Some expected) number = if is_behind expected number then Some expected else Some (next_to number)

-- what was handed out, if anything was, and how the hold stands then
abbrev pub Handed : Type 0
Handed = Option Came × HoldState

abbrev pub handing : Came → List Came → HoldState → Handed
handing one others hold = (Some one, record { millis = hold.millis; expected = expected_after hold.expected (number_of one.bytes); held = others })

-- ---- what comes

-- before which of those that wait it stands: the first that is farther ahead
abbrev pub place_in : ℕ → ℕ → List Came → ℕ
place_in expected number [] = 0
place_in expected number (one ∷ others) =
    if nat_lt (distance expected number) (distance expected (number_of one.bytes)) then 0 else suc (place_in expected number others)

-- where 8 wait already the first leaves
abbrev pub first_out : List Came → HoldState → Handed
first_out [] hold = (None, hold)
first_out (one ∷ others) hold = handing one others hold

abbrev pub unless_full : List Came → HoldState → Handed
unless_full waiting hold = if nat_lt 8 (length waiting) then first_out waiting hold else (None, record hold { held = waiting })

abbrev pub put_at : ℕ → Came → HoldState → Handed
put_at expected one hold = unless_full (insert hold.held (place_in expected (number_of one.bytes) hold.held) one) hold

-- What isn't ahead is handed out at once, and what is ahead waits.
abbrev pub taken_by : Option ℕ → Came → HoldState → Handed
taken_by None one hold = handing one hold.held hold
taken_by (Some expected) one hold =
    if nat_lt 0 hold.millis && is_ahead expected (number_of one.bytes) then put_at expected one hold else handing one hold.held hold

abbrev pub taken : Came → HoldState → Handed
taken one hold = taken_by hold.expected one hold

-- ---- what waits

-- so long at a reading
abbrev pub has_waited : ℕ → ℕ → Came → Bool
has_waited millis now one = nat_le millis (now - one.at)

abbrev pub is_early : Option ℕ → Came → Bool
is_early None one = false
is_early (Some expected) one = is_ahead expected (number_of one.bytes)

-- The first that waits leaves where it isn't ahead any more, or where one has waited long enough.
abbrev pub leaves : ℕ → Came → HoldState → Bool
leaves now one hold = not (is_early hold.expected one) || list_any (has_waited hold.millis now) hold.held

abbrev pub asked_of : ℕ → List Came → HoldState → Handed
asked_of now [] hold = (None, hold)
asked_of now (one ∷ others) hold = if leaves now one hold then handing one others hold else (None, hold)

-- what is asked for at a reading
abbrev pub asked : ℕ → HoldState → Handed
asked now hold = asked_of now hold.held hold

-- ---- until when

-- the lesser of two readings, if there is a second
abbrev pub earlier : ℕ → Option ℕ → ℕ
earlier one None = one
earlier one (Some other) = if nat_lt other one then other else one

-- at which reading the one came that came first
abbrev pub earliest : List Came → Option ℕ
earliest [] = None
earliest (one ∷ others) = Some (earlier one.at (earliest others))

-- so long after it, or the largest reading
abbrev pub deadline : HoldState → Option ℕ
deadline hold = option_map (λ at. min (at + hold.millis) 18446744073709551615) (earliest hold.held)
