-- Why a call is refused, in words.
use Rattle.std.specs.Prelude.{◌≡◌, ◌<◌, ◌+◌, ℕ, false, Some}
use Rattle.embedded_host.specs.Embedded.{EmbeddedState}
use Rattle.embedded_host.specs.Calls.{Call, Hears, Ticks, Senses, FindsEmpty, AsksOrder, Done, Takes}
use Rattle.embedded_host.specs.declared.refusal.Refusal.{Refusal}
use Rattle.embedded_host.specs.declared.refusal.Refusal.TheVariants as refusals

-- the reading that a call brings; `done` brings none
abbrev pub Brings : Call → ℕ → Type 0
Brings (Hears now bytes) reading = now ≡ reading
Brings (Ticks now) reading = now ≡ reading
Brings (Senses now sense) reading = now ≡ reading
Brings (FindsEmpty before) reading = before ≡ reading
Brings (AsksOrder now) reading = now ≡ reading
Brings Done reading = ⊥
Brings (Takes now) reading = now ≡ reading

-- a call that takes from the network or gives to it
abbrev pub IsOnNetwork : Call → Type 0
IsOnNetwork (Hears now bytes) = Unit {0}
IsOnNetwork (Takes now) = Unit {0}
IsOnNetwork _ = ⊥

abbrev pub IsHearing : Call → Type 0
IsHearing (Hears now bytes) = Unit {0}
IsHearing _ = ⊥

abbrev pub IsTaking : Call → Type 0
IsTaking (Takes now) = Unit {0}
IsTaking _ = ⊥

module _ {Object : Type 0} where
  -- The cause of each refusal: nothing else is refused with it.
  abbrev pub HasCause : Refusal → Call → EmbeddedState Object → Type 0
  -- its reading is before one that an earlier call brought
  HasCause refusals.ClockFell call it = (now : ℕ) × Brings call now × (now < it.latest)
  -- it is about the network, fewer than 2000 ms after the start
  HasCause refusals.TooSoon call it = (now : ℕ) × Brings call now × IsOnNetwork call × (now < it.begun + 2000)
  -- bytes came, and no receive has found nothing after a reading at most 400 ms before
  HasCause refusals.TooOld call it = (now : ℕ) × Brings call now × IsHearing call × ((before : ℕ) → it.empty ≡ Some before → before + 400 < now)
  -- a datagram is asked for, and the order of the last step isn't in force
  HasCause refusals.NotInForce call it = IsTaking call × (it.in_force ≡ false)
