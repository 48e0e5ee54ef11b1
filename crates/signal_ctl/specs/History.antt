-- A signal over time: what it shows and owes after every list of calls, in terms of the calls alone.
use Rattle.std.specs.Prelude.{ℕ, Bool, true, false, List, [], ◌∷◌, Option, Some, None}
use Rattle.sci_telegram.specs.declared.message.Aspect.{Aspect}
use Rattle.sci_telegram.specs.declared.message.Aspect.TheVariants.{Stop}
use Rattle.object_host.specs.Object.{ObjectCall, Takes, Keeps, Pays, Loses}
use Rattle.signal_ctl.specs.Signal.{indicates}

abbrev pub or_else : Option Aspect → Aspect → Aspect
or_else None last = last
or_else (Some aspect) last = aspect

-- the last aspect taken since the last loss, where before the calls it was this one
unfoldable pub last_aspect : List ObjectCall → Aspect → Aspect
last_aspect [] last = last
last_aspect (Takes now telegram ∷ others) last = last_aspect others (or_else (indicates telegram.message) last)
last_aspect (Loses ∷ others) last = last_aspect others Stop
last_aspect (_ ∷ others) last = last_aspect others last

-- the moment last told
unfoldable pub last_kept : List ObjectCall → ℕ → ℕ
last_kept [] last = last
last_kept (Keeps moment ∷ others) last = last_kept others moment
last_kept (_ ∷ others) last = last_kept others last

abbrev pub or_still : Option Aspect → Bool → Bool
or_still None owes = owes
or_still (Some aspect) owes = true

-- whether an aspect was taken since the last report was sent and since the last loss
unfoldable pub awaits_report : List ObjectCall → Bool → Bool
awaits_report [] owes = owes
awaits_report (Takes now telegram ∷ others) owes = awaits_report others (or_still (indicates telegram.message) owes)
awaits_report (Pays ∷ others) owes = awaits_report others false
awaits_report (Loses ∷ others) owes = awaits_report others false
awaits_report (_ ∷ others) owes = awaits_report others owes
