-- Why an event can't happen, where that is known.
use Rattle.std.specs.Prelude.{◌≡◌, ◌≢◌, Option, Some}
use Rattle.replay.specs.simulator_event.refused.Refused.{Refused}
use Rattle.replay.specs.simulator_event.refused.Refused.TheVariants as refused

-- why an event was refused, other than for want of memory
abbrev pub IsKnown : Refused → Option Refused → Type 0
IsKnown why told = (told ≡ Some why) × (why ≢ refused.OutOfMemory)
