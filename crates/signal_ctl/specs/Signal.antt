-- A signal as the object of a host: its lamp, and what it owes. The rules are this project's own.
use Rattle.std.specs.Prelude.{◌==◌, Bool, true, false, Option, Some, None, if◌then◌else◌}
use Rattle.sci_telegram.specs.declared.message.Aspect.{Aspect}
use Rattle.sci_telegram.specs.declared.message.Aspect.TheVariants.{Stop}
use Rattle.sci_telegram.specs.declared.message.Message.{Message}
use Rattle.sci_telegram.specs.declared.message.Message.TheVariants.{Signal}
use Rattle.sci_telegram.specs.declared.message.Protocol.TheVariants as protocols
use Rattle.sci_telegram.specs.declared.message.SignalMessage.TheVariants.{IndicateAspect, IndicatedAspect}
use Rattle.object_host.specs.Behaviour.{Behaviour}
use Rattle.object_host.specs.declared.report.Report.{Report}
use Rattle.signal_ctl.specs.Lamp.{Lamp, aspect_shown}

pub record SignalState : Type 0 where
  pub lamp : Lamp
  -- whether it owes a report of the aspect indicated
  pub owes : Bool

abbrev pub is_stop : Aspect → Bool
is_stop Stop = true
is_stop _ = false

-- it takes an aspect to indicate, and nothing else
abbrev pub indicates : Message → Option Aspect
indicates (Signal (IndicateAspect aspect)) = Some aspect
indicates _ = None

-- each aspect taken owes one report
abbrev pub told : Option Aspect → SignalState → SignalState
told None signal = signal
told (Some aspect) signal = record { lamp = record signal.lamp { indicated = aspect }; owes = true }

abbrev pub fits : Option Aspect → Bool
fits None = false
fits (Some aspect) = true

abbrev pub indicated_report : SignalState → Report
indicated_report signal = record { section = None; message = Signal (IndicatedAspect signal.lamp.indicated) }

abbrev pub signal_behaviour : Behaviour SignalState
signal_behaviour = record {
  protocol = protocols.LightSignal;
  accepts = λ now telegram signal. fits (indicates telegram.message);
  after_take = λ now telegram signal. told (indicates telegram.message) signal;
  after_tick = λ now signal. signal;
  after_sense = λ now sense signal. signal;
  after_keep = λ moment signal. record signal { lamp = record signal.lamp { until = moment } };
  until = λ signal. signal.lamp.until;
  owed = λ signal. if signal.owes then Some (indicated_report signal) else None;
  after_paid = λ signal. record signal { owes = false };
  status = λ place signal. if place == 0 then Some (indicated_report signal) else None;
  after_loss = λ signal. record { lamp = record signal.lamp { indicated = Stop }; owes = false };
  is_restrictive = λ now signal. is_stop (aspect_shown signal.lamp now);
  is_idle = λ signal. is_stop signal.lamp.indicated;
}
