-- A signal keeps the law of field objects.
use Rattle.std.specs.Prelude.{◌≡◌, ℕ, ◌≤◌, Bool, true, Option, Some, None, refl, if◌then◌else◌}
use Rattle.std.proofs.Common.{ap}
use Rattle.std.proofs.Math.Nat.{le_refl}
use Rattle.std.proofs.lemmas.Bool.{le-ltb, false≢true}
use Rattle.sci_telegram.specs.declared.message.Aspect.{Aspect}
use Rattle.sci_telegram.specs.declared.message.Aspect.TheVariants.{Stop, Proceed, Slow}
use Rattle.object_host.specs.Lawful.{IsLawful}
use Rattle.signal_ctl.specs.Lamp.{standing}
use Rattle.signal_ctl.specs.Signal.{SignalState, signal_behaviour, is_stop, told}

stops : (aspect : Aspect) (until now : ℕ) → until ≤ now → is_stop (standing aspect until now) ≡ true
stops Stop until now past = refl
stops Proceed until now past = ap (λ (before : Bool). is_stop (if before then Proceed else Stop)) (le-ltb now until past)
stops Slow until now past = ap (λ (before : Bool). is_stop (if before then Slow else Stop)) (le-ltb now until past)

idles : (aspect : Aspect) (until now : ℕ) → is_stop aspect ≡ true → is_stop (standing aspect until now) ≡ true
idles Stop until now idle = refl
idles Proceed until now idle = absurd (false≢true idle)
idles Slow until now idle = absurd (false≢true idle)

leaves : (aspect : Option Aspect) (signal : SignalState) → (told aspect signal).lamp.until ≡ signal.lamp.until
leaves None signal = refl
leaves (Some aspect) signal = refl

pub signal_is_lawful : IsLawful signal_behaviour
signal_is_lawful = record {
  dies = λ now signal past. stops signal.lamp.indicated signal.lamp.until now past;
  idle_is_restrictive = λ now signal idle. idles signal.lamp.indicated signal.lamp.until now idle;
  loss_idles = λ lamp. refl;
  loss_forgets = λ lamp. refl;
  tick_idles = λ now lamp idle. idle;
  sense_idles = λ now sense lamp idle. idle;
  keep_idles = λ moment lamp idle. idle;
  paid_idles = λ lamp idle. idle;
  keeps = λ moment lamp. le_refl moment;
  take_keeps = λ now telegram signal. leaves _ signal;
  tick_keeps = λ now lamp. refl;
  sense_keeps = λ now sense lamp. refl;
  paid_keeps = λ lamp. refl;
  loss_keeps = λ lamp. refl;
}
