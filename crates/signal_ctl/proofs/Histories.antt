-- What a signal shows and owes follows from the calls alone.
use Rattle.std.proofs.Common.{◌≡◌, ℕ, false, List, [], ◌∷◌, refl, ap, ◌∙◌}
use Rattle.std.specs.Prelude.{Option, Some, None}
use Rattle.sci_telegram.specs.declared.message.Aspect.{Aspect}
use Rattle.signal_ctl.specs.Lamp.{aspect_shown, new_lamp, standing}
use Rattle.object_host.specs.Object.{ObjectCall, Keeps, Loses, Pays, Senses, Takes, Ticks, object_after, object_after_all}
use Rattle.signal_ctl.specs.Signal.{SignalState, indicates, signal_behaviour, told}
use Rattle.signal_ctl.specs.History.{awaits_report, last_aspect, last_kept, or_else, or_still}
use Rattle.sci_telegram.specs.declared.message.Aspect.TheVariants.{Stop}

abbrev next : ObjectCall → SignalState → SignalState
next call signal = object_after signal_behaviour call signal

abbrev all : List ObjectCall → SignalState → SignalState
all calls signal = object_after_all signal_behaviour calls signal

indicated_by : (aspect : Option Aspect) (signal : SignalState) → (told aspect signal).lamp.indicated ≡ or_else aspect signal.lamp.indicated
indicated_by None signal = refl
indicated_by (Some aspect) signal = refl

until_by : (aspect : Option Aspect) (signal : SignalState) → (told aspect signal).lamp.until ≡ signal.lamp.until
until_by None signal = refl
until_by (Some aspect) signal = refl

owed_by : (aspect : Option Aspect) (signal : SignalState) → (told aspect signal).owes ≡ or_still aspect signal.owes
owed_by None signal = refl
owed_by (Some aspect) signal = refl

pub indicated_after : (calls : List ObjectCall) (signal : SignalState) → (all calls signal).lamp.indicated ≡ last_aspect calls signal.lamp.indicated
unfolding object_after_all last_aspect
indicated_after [] signal = refl
indicated_after (Takes now telegram ∷ others) signal =
    indicated_after others (next (Takes now telegram) signal) ∙ ap (last_aspect others) (indicated_by (indicates telegram.message) signal)
indicated_after (Ticks now ∷ others) signal = indicated_after others signal
indicated_after (Senses now sense ∷ others) signal = indicated_after others signal
indicated_after (Keeps moment ∷ others) signal = indicated_after others (next (Keeps moment) signal)
indicated_after (Pays ∷ others) signal = indicated_after others (next Pays signal)
indicated_after (Loses ∷ others) signal = indicated_after others (next Loses signal)

pub until_after : (calls : List ObjectCall) (signal : SignalState) → (all calls signal).lamp.until ≡ last_kept calls signal.lamp.until
unfolding object_after_all last_kept
until_after [] signal = refl
until_after (Takes now telegram ∷ others) signal =
    until_after others (next (Takes now telegram) signal) ∙ ap (last_kept others) (until_by (indicates telegram.message) signal)
until_after (Ticks now ∷ others) signal = until_after others signal
until_after (Senses now sense ∷ others) signal = until_after others signal
until_after (Keeps moment ∷ others) signal = until_after others (next (Keeps moment) signal)
until_after (Pays ∷ others) signal = until_after others (next Pays signal)
until_after (Loses ∷ others) signal = until_after others (next Loses signal)

pub owes_after : (calls : List ObjectCall) (signal : SignalState) → (all calls signal).owes ≡ awaits_report calls signal.owes
unfolding object_after_all awaits_report
owes_after [] signal = refl
owes_after (Takes now telegram ∷ others) signal =
    owes_after others (next (Takes now telegram) signal) ∙ ap (awaits_report others) (owed_by (indicates telegram.message) signal)
owes_after (Ticks now ∷ others) signal = owes_after others signal
owes_after (Senses now sense ∷ others) signal = owes_after others signal
owes_after (Keeps moment ∷ others) signal = owes_after others (next (Keeps moment) signal)
owes_after (Pays ∷ others) signal = owes_after others (next Pays signal)
owes_after (Loses ∷ others) signal = owes_after others (next Loses signal)

pub shown_after : (calls : List ObjectCall) (now : ℕ) → aspect_shown (object_after_all signal_behaviour calls (record { lamp = new_lamp; owes = false })).lamp now ≡ standing (last_aspect calls Stop) (last_kept calls 0) now
shown_after calls now =
    let signal : SignalState = record { lamp = new_lamp; owes = false }
    in ap (λ aspect. standing aspect (all calls signal).lamp.until now) (indicated_after calls signal)
    ∙ ap (λ until. standing (last_aspect calls Stop) until now) (until_after calls signal)
