-- The lamp of a signal as its contracts see it. The rules are this project's own.
use Rattle.std.specs.Prelude.{ℕ, nat_lt, if◌then◌else◌}
use Rattle.sci_telegram.specs.declared.message.Aspect.{Aspect}
use Rattle.sci_telegram.specs.declared.message.Aspect.TheVariants.{Stop}

-- what a signal was told: the last aspect since the last loss of its link, which is stop where there
-- is none, and the moment of its own clock, in ms, from which it shows nothing but stop
pub record Lamp : Type 0 where
  pub indicated : Aspect
  pub until : ℕ

-- an aspect as it is shown at a clock reading: any aspect but stop is shown before the moment alone
abbrev pub standing : Aspect → ℕ → ℕ → Aspect
standing Stop until now = Stop
standing aspect until now = if nat_lt now until then aspect else Stop

-- what a signal shows at a clock reading: a function of the clock, not of the steps made until then
abbrev pub aspect_shown : Lamp → ℕ → Aspect
aspect_shown lamp now = standing lamp.indicated lamp.until now

abbrev pub new_lamp : Lamp
new_lamp = record { indicated = Stop; until = 0 }
