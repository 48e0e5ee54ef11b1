-- The line of an order, by which a controller tells its field equipment what to do: its number, the reading of the step, and
-- the order. All moments are readings of the node's clock, in milliseconds.
--
--     7 at 12000 show proceed until 13640     show proceed, or slow, and from the moment after `until` on show stop
--     8 at 12310 show stop
--     9 at 500 drive left until 2280          drive the point to a side, and from that moment on don't drive it
--     10 at 900 drive none
use Rattle.std.specs.Prelude.{ℕ, nat_lt, if◌then◌else◌, List, [], ◌∷◌, codes, Option, Some, None, Result, Ok, Err}
use Rattle.std.specs.Fmt.{decimal as written}
use Rattle.std.specs.List.{join_with_byte}
use Rattle.std.specs.Str.{bytes_eq}
use Rattle.replay_words.specs.declared.fault.Fault.{Fault}
use Rattle.replay_words.specs.declared.fault.Fault.TheVariants.{Words}
use Rattle.replay_words.specs.Fault.{both, ◌>>=◌}
use Rattle.replay_words.specs.Read.{decimal}
use Rattle.replay_lines.specs.ixl_spec.sci_telegram.Words.{aspect_of_word, side_of_word, side_word}
use Rattle.replay_lines.specs.ixl_spec.sci_telegram.declared.message.Aspect.{Aspect}
use Rattle.replay_lines.specs.ixl_spec.sci_telegram.declared.message.Aspect.TheVariants as aspects
use Rattle.replay_lines.specs.ixl_spec.sci_telegram.declared.message.Side.{Side}
use Rattle.node_lines.specs.declared.order.Order.{Order}
use Rattle.node_lines.specs.declared.order.Order.TheVariants.{ShowStop, ShowProceed, ShowSlow, DriveNone, Drive}
use Rattle.node_lines.specs.declared.order.OrderLine.{OrderLine}

-- ---- what they mean

-- what a signal shows at a reading of the node's clock that keeps this order
abbrev pub aspect_ordered : Order → ℕ → Aspect
aspect_ordered (ShowProceed until) now = if nat_lt now until then aspects.Proceed else aspects.Stop
aspect_ordered (ShowSlow until) now = if nat_lt now until then aspects.Slow else aspects.Stop
aspect_ordered order now = aspects.Stop

-- and to which side a point is driven then, if it is
abbrev pub side_ordered : Order → ℕ → Option Side
side_ordered (Drive to until) now = if nat_lt now until then Some to else None
side_ordered order now = None

-- ---- written

abbrev pub until_words : ℕ → List (List ℕ)
until_words until = codes "until" ∷ written until ∷ []

abbrev pub order_words : Order → List (List ℕ)
order_words ShowStop = codes "show" ∷ codes "stop" ∷ []
order_words (ShowProceed until) = codes "show" ∷ codes "proceed" ∷ until_words until
order_words (ShowSlow until) = codes "show" ∷ codes "slow" ∷ until_words until
order_words DriveNone = codes "drive" ∷ codes "none" ∷ []
order_words (Drive to until) = codes "drive" ∷ side_word to ∷ until_words until

abbrev pub order_line_words : OrderLine → List (List ℕ)
order_line_words line = written line.number ∷ codes "at" ∷ written line.reading ∷ order_words line.order

abbrev pub order_text : OrderLine → List ℕ
order_text line = join_with_byte 32 (order_line_words line)

-- ---- read

-- an order after which nothing stands
abbrev pub alone : Order → List (List ℕ) → Result Order Fault
alone order [] = Ok order
alone order more = Err Words

-- the moment up to which an order stands
abbrev pub until_said : List (List ℕ) → Result ℕ Fault
until_said (word ∷ number ∷ []) = if bytes_eq word (codes "until") then decimal number else Err Words
until_said other = Err Words

abbrev pub with_until : (ℕ → Order) → List (List ℕ) → Result Order Fault
with_until order more = do
  until ← until_said more
  Ok (order until)

-- by the word after `show`, and those after that
abbrev pub shown_as : List ℕ → List (List ℕ) → Result Order Fault
shown_as aspect more = by_aspect (aspect_of_word aspect) where
  by_aspect : Option Aspect → Result Order Fault
  by_aspect (Some aspects.Stop) = alone ShowStop more
  by_aspect (Some aspects.Proceed) = with_until (λ until. ShowProceed until) more
  by_aspect (Some aspects.Slow) = with_until (λ until. ShowSlow until) more
  by_aspect None = Err Words

abbrev pub shown : List (List ℕ) → Result Order Fault
shown (aspect ∷ more) = shown_as aspect more
shown [] = Err Words

-- by the word after `drive`
abbrev pub driven_to : List ℕ → List (List ℕ) → Result Order Fault
driven_to to more =
    if bytes_eq to (codes "none") then alone DriveNone more
    else driven_aside (side_of_word to)
  where
    driven_aside : Option Side → Result Order Fault
    driven_aside (Some side) = with_until (λ until. Drive side until) more
    driven_aside None = Err Words

abbrev pub driven : List (List ℕ) → Result Order Fault
driven (to ∷ more) = driven_to to more
driven [] = Err Words

abbrev pub order_as : List ℕ → List (List ℕ) → Result Order Fault
order_as word more =
    if bytes_eq word (codes "show") then shown more
    else if bytes_eq word (codes "drive") then driven more
    else Err Words

abbrev pub order_said : List (List ℕ) → Result Order Fault
order_said (word ∷ more) = order_as word more
order_said [] = Err Words

abbrev pub line_of : Result ((ℕ × ℕ) × Order) Fault → Result OrderLine Fault
line_of (Ok said) = Ok (record { number = said.0.0; reading = said.0.1; order = said.1 })
line_of (Err fault) = Err fault

-- the number, the word `at`, the reading, and the words of the order
abbrev pub numbered : List ℕ → List ℕ → List ℕ → List (List ℕ) → Result OrderLine Fault
numbered number at reading order =
    if bytes_eq at (codes "at") then line_of (both (both (decimal number) (decimal reading)) (order_said order)) else Err Words

-- the order that the words of a line say, or their lowest fault
abbrev pub order_line_said : List (List ℕ) → Result OrderLine Fault
order_line_said (number ∷ at ∷ reading ∷ order) = numbered number at reading order
order_line_said other = Err Words
