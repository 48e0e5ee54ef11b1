-- What a signal's lamp has to show, as C is told.
use Rattle.std.specs.Prelude.{ℕ}
use Rattle.signal_ctl.specs.Lamp.{aspect_shown}
use Rattle.signal_ctl.specs.Signal.{SignalState}
use Rattle.sci_telegram.specs.declared.message.Aspect.{Aspect}
use Rattle.sci_telegram.specs.declared.message.Aspect.TheVariants as aspects
use Rattle.controllers_c.specs.declared.lamp.LampOrder.{LampOrder}

-- the number of an aspect
abbrev pub aspect_number : Aspect → ℕ
aspect_number aspects.Stop = 0
aspect_number aspects.Proceed = 1
aspect_number aspects.Slow = 2

-- what it shows at a reading, and the reading from which it is stop with no call in between
abbrev pub lamp_of : SignalState → ℕ → LampOrder
lamp_of signal now = record { aspect = aspect_number (aspect_shown signal.lamp now); until = signal.lamp.until }
