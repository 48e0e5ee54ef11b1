-- Numbers that are counted, and what counts.
use Rattle.std.specs.Prelude.{ℕ, suc, ◌+◌, ◌-◌, ◌*◌, ◌==◌, nat_le, nat_lt, Bool, true, false, if◌then◌else◌, List, get_or, length, replicate, slice_index, slice_set, Option, Some, None}
use Rattle.run_numbers.specs.Labels.{reason}
use Rattle.run_numbers.specs.Rows.{place_of, row_count}
use Rattle.run_numbers.specs.declared.row.Row.{Row}
use Rattle.run_numbers.specs.declared.row.Row.TheVariants.{AsksSent, AsksTaken, ClosingsSent, ClosingsTaken, Rounds, RoundsLate}

-- each number, at the place of its row, and when the last round began
pub record NumbersState : Type 0 where
  pub values : List ℕ
  pub began : Option ℕ

abbrev pub no_numbers : NumbersState
no_numbers = record { values = replicate row_count 0; began = None }

-- ---- one number

abbrev pub value_at : Row → NumbersState → ℕ
value_at row numbers = get_or numbers.values (place_of row) 0

abbrev pub put_at : {A : Type 0} → ℕ → A → List A → List A
put_at place value all = if nat_lt place (length all) then slice_set all place value else all

abbrev pub put : Row → ℕ → NumbersState → NumbersState
put row value numbers = record numbers { values = put_at (place_of row) value numbers.values }

-- what counts up to the largest number of 64 bits, and stays there
abbrev pub one_more : ℕ → ℕ
one_more number = if nat_lt number 18446744073709551615 then suc number else number

-- one more of a row
abbrev pub counted : Row → NumbersState → NumbersState
counted row numbers = put row (one_more (value_at row numbers)) numbers

-- ---- rounds

-- it begins 20 ms or more after the one before
abbrev pub is_late : Option ℕ → ℕ → Bool
is_late None reading = false
is_late (Some began) reading = nat_le 20 (reading - began)

abbrev pub counted_if : Bool → Row → NumbersState → NumbersState
counted_if true row numbers = counted row numbers
counted_if false row numbers = numbers

-- a round begins at a reading of the clock
abbrev pub begun_at : ℕ → NumbersState → NumbersState
begun_at reading numbers = record (counted_if (is_late numbers.began reading) RoundsLate (counted Rounds numbers)) { began = Some reading }

-- ---- datagrams

-- the number of 16 bits at a place, low-order byte first; bytes that are lacking count as 0
abbrev pub u16_of : ℕ → List ℕ → ℕ
u16_of place bytes = slice_index bytes place + slice_index bytes (suc place) * 256

-- by its type: 6212 is a retransmission request, 6216 a disconnection request, which has its reason at byte 30
abbrev pub by_type : (asks : Row) → (ℕ → Row) → List ℕ → NumbersState → NumbersState
by_type asks closings bytes numbers =
    if u16_of 2 bytes == 6212 then counted asks numbers
    else if u16_of 2 bytes == 6216 then counted (closings (u16_of 30 bytes)) numbers
    else numbers

-- a datagram is sent
abbrev pub with_sent : List ℕ → NumbersState → NumbersState
with_sent bytes numbers = by_type AsksSent (λ number. ClosingsSent (reason number)) bytes numbers

-- a datagram was taken from a partner
abbrev pub with_taken : List ℕ → NumbersState → NumbersState
with_taken bytes numbers = by_type AsksTaken (λ number. ClosingsTaken (reason number)) bytes numbers
