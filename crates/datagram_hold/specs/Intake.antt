-- What a node takes from its networks: the holds of all senders, and what was seen of each network.
use Rattle.std.specs.Prelude.{◌≤◌, ◌+◌, ℕ, suc, nat_lt, min, ◌&&◌, if◌then◌else◌, Bool, false, List, [], ◌∷◌, ◌++◌, Option, Some, None, slice_get, slice_set, length, map}
use Rattle.std.specs.Option.{option_map, option_to_list}
use Rattle.datagram_hold.specs.Came.{Came}
use Rattle.datagram_hold.specs.Hold.{HoldState, asked, leaves, taken}
use Rattle.datagram_hold.specs.declared.network.Network.{Network}
use Rattle.datagram_hold.specs.declared.network.Network.TheVariants.{First, Second}

-- How the intake of a node stands.
pub record IntakeState : Type 0 where
  -- what the clock read last
  pub latest : ℕ
  -- what it had read before the last call that found the first network empty, and the second; 0 where none did. What waits there came
  -- later
  pub first : ℕ
  pub second : ℕ
  -- the hold of each sender
  pub holds : List HoldState

-- nothing was handed out yet, and nothing waits
abbrev pub new_hold : ℕ → HoldState
new_hold millis = record { millis = millis; expected = None; held = [] }

-- ---- networks

-- after which reading what waits in a network came
abbrev pub since : Network → IntakeState → ℕ
since First intake = intake.first
since Second intake = intake.second

abbrev pub found_empty : Network → IntakeState → IntakeState
found_empty First intake = record intake { first = intake.latest }
found_empty Second intake = record intake { second = intake.latest }

-- Each network was found empty less than so long before the latest reading.
abbrev pub is_fresh : ℕ → IntakeState → Bool
is_fresh bound intake = nat_lt intake.latest (intake.first + bound) && nat_lt intake.latest (intake.second + bound)

-- ---- datagrams

-- The sender at a place takes a datagram, which counts from where its network was found empty.
abbrev pub taken_by_it : ℕ → Came → List HoldState → Option HoldState → Option Came × List HoldState
taken_by_it place one holds None = (Some one, holds)
taken_by_it place one holds (Some hold) = ((taken one hold).0, slice_set holds place (taken one hold).1)

abbrev pub taken_from : Network → ℕ → List ℕ → IntakeState → Option Came × IntakeState
taken_from network place bytes intake =
    let taking = taken_by_it place (record { at = since network intake; sender = place; over = network; bytes = bytes }) intake.holds (slice_get intake.holds place)
    in (taking.0, record intake { holds = taking.1 })

-- whether a hold hands out something at a reading
abbrev pub ready_of : ℕ → List Came → HoldState → Bool
ready_of now [] hold = false
ready_of now (one ∷ others) hold = leaves now one hold

abbrev pub is_ready : ℕ → HoldState → Bool
is_ready now hold = ready_of now hold.held hold

-- the first sender whose hold does
abbrev pub first_ready : ℕ → List HoldState → Option ℕ
first_ready now [] = None
first_ready now (hold ∷ others) = if is_ready now hold then Some 0 else option_map suc (first_ready now others)

abbrev pub given_by : ℕ → ℕ → List HoldState → Option HoldState → Option (ℕ × Came) × List HoldState
given_by now place holds None = (None, holds)
given_by now place holds (Some hold) = (option_map (λ one. (place, one)) (asked now hold).0, slice_set holds place (asked now hold).1)

abbrev pub given_at : ℕ → List HoldState → Option ℕ → Option (ℕ × Came) × List HoldState
given_at now holds None = (None, holds)
given_at now holds (Some place) = given_by now place holds (slice_get holds place)

-- what is handed out at a reading, with the place of its sender
abbrev pub given : ℕ → IntakeState → Option (ℕ × Came) × IntakeState
given now intake =
    let giving = given_at now intake.holds (first_ready now intake.holds)
    in (giving.0, record intake { holds = giving.1 })

-- nothing waits any more, and what is expected stays
abbrev pub emptied : HoldState → HoldState
emptied hold = record hold { held = [] }

abbrev pub forgotten : IntakeState → IntakeState
forgotten intake = record intake { holds = map emptied intake.holds }

-- how many wait in these holds, counted up to the largest number of 64 bits
abbrev pub held_by : List HoldState → ℕ
held_by [] = 0
held_by (hold ∷ others) = min (length hold.held + held_by others) 18446744073709551615

-- ---- one after another

pub data IntakeCall : Type 0 where
  ReadsClock : (reading : ℕ) → IntakeCall
  FindsEmpty : (network : Network) → IntakeCall
  TakesFrom : (network : Network) (place : ℕ) (bytes : List ℕ) → IntakeCall
  AsksAt : (now : ℕ) → IntakeCall
  Forgets : IntakeCall

-- what a call hands out
abbrev pub intake_called : IntakeCall → IntakeState → List Came × IntakeState
intake_called (ReadsClock reading) intake = ([], record intake { latest = reading })
intake_called (FindsEmpty network) intake = ([], found_empty network intake)
intake_called (TakesFrom network place bytes) intake = let taking = taken_from network place bytes intake in (option_to_list taking.0, taking.1)
intake_called Forgets intake = ([], forgotten intake)
intake_called (AsksAt now) intake = let giving = given now intake in (option_to_list (option_map (λ one. one.1) giving.0), giving.1)

abbrev pub intake_run : List IntakeCall → IntakeState → List Came × IntakeState
intake_run [] intake = ([], intake)
intake_run (call ∷ calls) intake =
    let first = intake_called call intake
    in let more = intake_run calls first.1
    in (first.0 ++ more.0, more.1)

-- the clock doesn't fall
abbrev pub ReadsOn : ℕ → List IntakeCall → Type 0
ReadsOn from [] = Unit {0}
ReadsOn from (ReadsClock reading ∷ calls) = (from ≤ reading) × ReadsOn reading calls
ReadsOn from (call ∷ calls) = ReadsOn from calls
