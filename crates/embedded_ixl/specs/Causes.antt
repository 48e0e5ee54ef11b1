-- Why a call is refused by the rules of the loop, in words.
use Rattle.std.specs.Prelude.{◌≡◌, ◌<◌, ◌+◌, ℕ, Some}
use Rattle.embedded_ixl.specs.Embedded.{EmbeddedIxlState}
use Rattle.embedded_ixl.specs.Calls.{Call, Hears, Ticks, Obeys, FindsEmpty, Takes}
use Rattle.embedded_ixl.specs.declared.call_refusal.CallRefusal.{CallRefusal}
use Rattle.embedded_ixl.specs.declared.call_refusal.CallRefusal.TheVariants as refusals

-- the reading that a call brings
abbrev pub reading_in : Call → ℕ
reading_in (Hears now bytes) = now
reading_in (Ticks now) = now
reading_in (Obeys now command) = now
reading_in (FindsEmpty before) = before
reading_in (Takes now) = now

-- a call that takes from the network or gives to it
abbrev pub IsOnNetwork : Call → Type 0
IsOnNetwork (Hears now bytes) = Unit {0}
IsOnNetwork (Takes now) = Unit {0}
IsOnNetwork _ = ⊥

abbrev pub IsHearing : Call → Type 0
IsHearing (Hears now bytes) = Unit {0}
IsHearing _ = ⊥

-- The cause of each refusal: nothing else is refused with it.
abbrev pub HasCause : CallRefusal → Call → EmbeddedIxlState → Type 0
-- its reading is before one that an earlier call brought
HasCause refusals.ClockFell call it = reading_in call < it.latest
-- it is about the network, fewer than 2000 ms after the start
HasCause refusals.TooSoon call it = IsOnNetwork call × (reading_in call < it.begun + 2000)
-- bytes came, and no receive has found nothing after a reading at most 400 ms before
HasCause refusals.TooOld call it = IsHearing call × ((before : ℕ) → it.empty ≡ Some before → before + 400 < reading_in call)
