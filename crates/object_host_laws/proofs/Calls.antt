-- What a signal indicates and keeps after the calls of a step.
use Rattle.std.proofs.Common.{◌≡◌, ℕ, true, false, List, [], ◌∷◌, ◌++◌, refl}
use Rattle.sci_telegram.specs.declared.message.Aspect.{Aspect}
use Rattle.sci_telegram.specs.declared.message.Aspect.TheVariants.{Stop}
use Rattle.sci_telegram.specs.declared.telegram.Telegram.{Telegram}
use Rattle.object_host.specs.Object.{ObjectCall, Takes, Ticks, Senses, Keeps, Pays, Loses, telegrams_in}
use Rattle.object_host.specs.Told.{AreComing, ArePayments, loss_where}
use Rattle.signal_ctl.specs.History.{last_aspect, last_kept, or_else}
use Rattle.signal_ctl.specs.Signal.{indicates}
use Rattle.object_host_laws.specs.Signal.{last_indicated}

pub aspect_joined : (first others : List ObjectCall) (last : Aspect) → last_aspect (first ++ others) last ≡ last_aspect others (last_aspect first last)
unfolding last_aspect
aspect_joined [] others last = refl
aspect_joined (Takes now telegram ∷ calls) others last = aspect_joined calls others (or_else (indicates telegram.message) last)
aspect_joined (Ticks now ∷ calls) others last = aspect_joined calls others last
aspect_joined (Senses now sense ∷ calls) others last = aspect_joined calls others last
aspect_joined (Keeps moment ∷ calls) others last = aspect_joined calls others last
aspect_joined (Pays ∷ calls) others last = aspect_joined calls others last
aspect_joined (Loses ∷ calls) others last = aspect_joined calls others Stop

pub kept_last : (calls : List ObjectCall) (moment last : ℕ) → last_kept (calls ++ Keeps moment ∷ []) last ≡ moment
unfolding last_kept
kept_last [] moment last = refl
kept_last (Takes now telegram ∷ calls) moment last = kept_last calls moment last
kept_last (Ticks now ∷ calls) moment last = kept_last calls moment last
kept_last (Senses now sense ∷ calls) moment last = kept_last calls moment last
kept_last (Keeps until ∷ calls) moment last = kept_last calls moment until
kept_last (Pays ∷ calls) moment last = kept_last calls moment last
kept_last (Loses ∷ calls) moment last = kept_last calls moment last

pub coming_is : (now : ℕ) (calls : List ObjectCall) (last : Aspect) → AreComing now calls → last_aspect calls last ≡ last_indicated (telegrams_in calls) last
unfolding last_aspect last_indicated telegrams_in
coming_is now [] last are = refl
coming_is now (Takes at telegram ∷ calls) last are = coming_is now calls (or_else (indicates telegram.message) last) are.1
coming_is now (Ticks at ∷ calls) last are = absurd are
coming_is now (Senses at sense ∷ calls) last are = coming_is now calls last are.1
coming_is now (Keeps moment ∷ calls) last are = absurd are
coming_is now (Pays ∷ calls) last are = absurd are
coming_is now (Loses ∷ calls) last are = absurd are

pub paying_is : (calls : List ObjectCall) (last : Aspect) → ArePayments calls → last_aspect calls last ≡ last
unfolding last_aspect
paying_is [] last are = refl
paying_is (Takes at telegram ∷ calls) last are = absurd are
paying_is (Ticks at ∷ calls) last are = absurd are
paying_is (Senses at sense ∷ calls) last are = absurd are
paying_is (Keeps moment ∷ calls) last are = absurd are
paying_is (Pays ∷ calls) last are = paying_is calls last are
paying_is (Loses ∷ calls) last are = absurd are

pub told_joined : (first others : List Telegram) (last : Aspect) → last_indicated (first ++ others) last ≡ last_indicated others (last_indicated first last)
unfolding last_indicated
told_joined [] others last = refl
told_joined (telegram ∷ more) others last = told_joined more others (or_else (indicates telegram.message) last)

-- how a step begins
pub begins_lost : (now : ℕ) (last : Aspect) → last_aspect (loss_where true ++ Ticks now ∷ []) last ≡ Stop
unfolding last_aspect
begins_lost now last = refl

pub begins : (now : ℕ) (last : Aspect) → last_aspect (loss_where false ++ Ticks now ∷ []) last ≡ last
unfolding last_aspect
begins now last = refl

-- how it ends where the link wasn't lost
pub ends : (moment : ℕ) (last : Aspect) → last_aspect (loss_where false ++ Keeps moment ∷ []) last ≡ last
unfolding last_aspect
ends moment last = refl
