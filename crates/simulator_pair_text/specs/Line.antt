-- What one event line of a pair says, or the lowest fault of its words. `C` is the client and `S` the
-- server; numbers are decimal, bytes hexadecimal.
--
--     give END HEX                  an item of 1 to 61 bytes
--     tick END
--     time D END=E ..               in microseconds; an end that isn't named has D
--     deliver END HEX               0 to 512 bytes, for 0 bytes `-`
--     lose HEX                      1 to 512 bytes
--     close END REASON              0 to 5
--     restart END CLOCK SN          at most 9000000000000, and 4294967295
--     flow MS                       10 to 600000, a multiple of 10
--     picture
use Rattle.std.specs.Prelude.{ℕ, ◌==◌, ◌%◌, ◌&&◌, nat_le, if◌then◌else◌, Option, Some, None, unwrap_or, List, [], ◌∷◌, length, codes, Result, Ok, Err}
use Rattle.std.specs.List.{filter_map}
use Rattle.std.specs.Str.{bytes_eq}
use Rattle.replay_words.specs.declared.fault.Fault.{Fault}
use Rattle.replay_words.specs.declared.fault.Fault.TheVariants.{Words, Name, Number, Hexadecimal}
use Rattle.replay_words.specs.Fault.{both, ◌>>=◌}
use Rattle.replay_words.specs.Cut.{words, name_and_number}
use Rattle.replay_words.specs.Read.{decimal, hexadecimal, hexadecimal_or_none}
use Rattle.rasta_core.specs.identity.Role.{Role}
use Rattle.rasta_core.specs.identity.Role.TheVariants.{Client, Server}
use Rattle.rasta_core.specs.time.TheConstants.{LATEST_CLOCK}
use Rattle.rasta_core.specs.reason.Reason.{Reason}
use Rattle.rasta_core.specs.reason.Reason.TheVariants.{User, State, Sequence, Version, Window, Time as Silence}
use Rattle.simulator_pair.specs.declared.event.PairEvent.TheVariants.{Give, Tick, Time, Deliver, Lose, Close, Restart}
use Rattle.simulator_pair_text.specs.declared.line.PairLine.{PairLine}
use Rattle.simulator_pair_text.specs.declared.line.PairLine.TheVariants.{Event, Flow, Picture}

-- ---- single words

-- the end of a name
abbrev pub end_named : List ℕ → Result Role Fault
end_named word =
    if bytes_eq word (codes "C") then Ok Client
    else if bytes_eq word (codes "S") then Ok Server
    else Err Name

-- a number that is at most `most`
abbrev pub number_up_to : ℕ → List ℕ → Result ℕ Fault
number_up_to most word = do
  n ← decimal word
  if nat_le n most then Ok n else Err Number

-- the reason of a close, by its number
abbrev pub reason_numbered : ℕ → Result Reason Fault
reason_numbered n =
    if n == 0 then Ok User
    else if n == 1 then Ok State
    else if n == 2 then Ok Sequence
    else if n == 3 then Ok Silence
    else if n == 4 then Ok Version
    else if n == 5 then Ok Window
    else Err Number

abbrev pub reason : List ℕ → Result Reason Fault
reason word = do
  n ← decimal word
  reason_numbered n

-- the bytes of an item
abbrev pub item : List ℕ → Result (List ℕ) Fault
item word = do
  bytes ← hexadecimal word
  if nat_le (length bytes) 61 then Ok bytes else Err Hexadecimal

-- the milliseconds of a flow
abbrev pub milliseconds : List ℕ → Result ℕ Fault
milliseconds word = do
  n ← decimal word
  if nat_le 10 n && nat_le n 600000 && n % 10 == 0 then Ok n else Err Number

-- ---- words `END=E`

-- the end that the word names, and the word of its number
abbrev pub named : List ℕ → Result (Role × List ℕ) Fault
named word = do
  sides ← name_and_number word
  end ← end_named sides.0
  Ok (end, sides.1)

-- the lowest fault in the names of the words
abbrev pub names : List (List ℕ) → Result (Unit {0}) Fault
names [] = Ok tt
names (word ∷ more) = do
  both_named ← both (named word) (names more)
  Ok tt

-- the word of its number, if the word names this end
abbrev pub number_for : Role → Result (Role × List ℕ) Fault → Option (List ℕ)
number_for Client (Ok (Client, number)) = Some number
number_for Server (Ok (Server, number)) = Some number
number_for end other = None

-- the numbers that the words give to an end
abbrev pub numbers_for : Role → List (List ℕ) → List (List ℕ)
numbers_for end words = filter_map (λ word. number_for end (named word)) words

-- the number of an end, if it is named; an end that is named twice has a fault in its name
abbrev pub sole : List (List ℕ) → Result (Option ℕ) Fault
sole [] = Ok None
sole (number ∷ []) = do
  n ← decimal number
  Ok (Some n)
sole (number ∷ next ∷ more) = Err Name

-- ---- lines, by the words after the first

abbrev pub give : List (List ℕ) → Result PairLine Fault
give (end ∷ bytes ∷ []) = do
  of ← both (end_named end) (item bytes)
  Ok (Event (Give of.0 of.1))
give other = Err Words

abbrev pub tick : List (List ℕ) → Result PairLine Fault
tick (end ∷ []) = do
  of ← end_named end
  Ok (Event (Tick of))
tick other = Err Words

-- the numbers of both ends, of those that are named
abbrev pub clocks : List (List ℕ) → Result (Option ℕ × Option ℕ) Fault
clocks words = both (sole (numbers_for Client words)) (sole (numbers_for Server words))

abbrev pub time : List (List ℕ) → Result PairLine Fault
time (d ∷ words) = do
  none ← names words
  of ← both (decimal d) (clocks words)
  Ok (Event (Time of.0 (unwrap_or of.1.0 of.0) (unwrap_or of.1.1 of.0)))
time [] = Err Words

abbrev pub deliver : List (List ℕ) → Result PairLine Fault
deliver (end ∷ bytes ∷ []) = do
  of ← both (end_named end) (hexadecimal_or_none bytes)
  Ok (Event (Deliver of.0 (record { items = of.1 })))
deliver other = Err Words

abbrev pub lose : List (List ℕ) → Result PairLine Fault
lose (bytes ∷ []) = do
  of ← hexadecimal bytes
  Ok (Event (Lose (record { items = of })))
lose other = Err Words

abbrev pub close : List (List ℕ) → Result PairLine Fault
close (end ∷ why ∷ []) = do
  of ← both (end_named end) (reason why)
  Ok (Event (Close of.0 of.1))
close other = Err Words

abbrev pub restart : List (List ℕ) → Result PairLine Fault
restart (end ∷ clock ∷ number ∷ []) = do
  of ← both (end_named end) (both (number_up_to LATEST_CLOCK clock) (number_up_to 4294967295 number))
  Ok (Event (Restart of.0 of.1.0 of.1.1))
restart other = Err Words

abbrev pub flow : List (List ℕ) → Result PairLine Fault
flow (word ∷ []) = do
  of ← milliseconds word
  Ok (Flow of)
flow other = Err Words

abbrev pub picture : List (List ℕ) → Result PairLine Fault
picture [] = Ok Picture
picture other = Err Words

-- what a line says, by its words
abbrev pub line_of : List (List ℕ) → Result PairLine Fault
line_of (first ∷ rest) =
    if bytes_eq first (codes "give") then give rest
    else if bytes_eq first (codes "tick") then tick rest
    else if bytes_eq first (codes "time") then time rest
    else if bytes_eq first (codes "deliver") then deliver rest
    else if bytes_eq first (codes "lose") then lose rest
    else if bytes_eq first (codes "close") then close rest
    else if bytes_eq first (codes "restart") then restart rest
    else if bytes_eq first (codes "flow") then flow rest
    else if bytes_eq first (codes "picture") then picture rest
    else Err Words
line_of [] = Err Words

abbrev pub line : List ℕ → Result PairLine Fault
line text = line_of (words text)
