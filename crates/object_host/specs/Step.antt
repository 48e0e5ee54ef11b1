-- A step of a host, in its order: the clock with the object's tick, the input, the owed reports, the link's tick, and
-- what the object is told of its link at the end.
use Rattle.std.specs.Prelude.{ℕ, zero, suc, ◌+◌, ◌==◌, nat_le, ◌&&◌, ◌||◌, not, Bool, true, false, List, [], ◌∷◌, Option, Some, None, Result, Ok, Err, is_ok, if◌then◌else◌}
use Rattle.std.specs.Str.{bytes_eq}
use Rattle.sci_telegram.specs.Messages.{protocol_of}
use Rattle.sci_telegram.specs.TelegramRead.{reading}
use Rattle.sci_telegram.specs.Telegrams.{writing}
use Rattle.sci_telegram.specs.declared.fault.SciFault.{SciFault}
use Rattle.sci_telegram.specs.declared.message.Agreement.TheVariants.{NoMatch, Match}
use Rattle.sci_telegram.specs.declared.message.Initialisation.TheVariants.{StartInitialisation, InitialisationCompleted, VersionAnswer}
use Rattle.sci_telegram.specs.declared.message.Aspect.TheVariants.{Slow}
use Rattle.sci_telegram.specs.declared.message.Message.{Message}
use Rattle.sci_telegram.specs.declared.message.Message.TheVariants.{Signal}
use Rattle.sci_telegram.specs.declared.message.SignalMessage.TheVariants.{IndicateAspect, IndicatedAspect}
use Rattle.sci_telegram.specs.declared.message.TheConstants.{SLOW_SINCE}
use Rattle.sci_telegram.specs.declared.message.Protocol.{Protocol}
use Rattle.sci_telegram.specs.declared.message.Protocol.TheVariants as protocols
use Rattle.sci_telegram.specs.declared.telegram.Telegram.{Telegram}
use Rattle.rasta_core.specs.State.{is_open}
use Rattle.rasta_core.specs.Clock.{settled}
use Rattle.rasta_core.specs.Calls.{ticking, closing_by, answer_to_send, sending_item, receiving}
use Rattle.rasta_core.specs.Receipt.{Receipt}
use Rattle.rasta_core.specs.reason.Reason.TheVariants as reason
use Rattle.object_host.specs.Behaviour.{Behaviour}
use Rattle.object_host.specs.Meaning.{meaning}
use Rattle.object_host.specs.Host.{HostState, HostSoFar, Ticks, Closes, Sends, Receives, silent, then_do, linked, at_stage, acting_on, is_completed, risen, fallen, keeping, telegram_of, said}
use Rattle.object_host.specs.declared.meaning.Meaning.{Meaning}
use Rattle.object_host.specs.declared.meaning.Meaning.TheVariants as meanings
use Rattle.object_host.specs.declared.report.Report.{Report}
use Rattle.object_host.specs.declared.stage.Stage.TheVariants as stage
use Rattle.object_host.specs.declared.input.Input.{Input}
use Rattle.object_host.specs.declared.input.Input.TheVariants as inputs

-- how many objects a controller has at most, and so how many reports its initial status
abbrev pub most_objects : ℕ
most_objects = 16

-- how many owed reports a step sends at most: the window of a link
abbrev pub most_owed : ℕ
most_owed = 20

abbrev pub is_same_protocol : Protocol → Protocol → Bool
is_same_protocol protocols.TrainDetection protocols.TrainDetection = true
is_same_protocol protocols.LightSignal protocols.LightSignal = true
is_same_protocol protocols.Point protocols.Point = true
is_same_protocol _ _ = false

-- telegrams of a version: the aspect slow came with version `SLOW_SINCE`
abbrev pub is_in_version : ℕ → Message → Bool
is_in_version version (Signal (IndicateAspect Slow)) = nat_le SLOW_SINCE version
is_in_version version (Signal (IndicatedAspect Slow)) = nat_le SLOW_SINCE version
is_in_version version _ = true

-- a report and those after it; where there is none, those after it are none
abbrev pub report_then : Option Report → List Report → List Report
report_then None others = []
report_then (Some report) others = report ∷ others

module _ {Object : Type 0} where
  -- a telegram in the object's protocol, of the peer, for this controller
  abbrev pub is_from_peer : Behaviour Object → Telegram → HostState Object → Bool
  is_from_peer does telegram host =
      is_same_protocol (protocol_of telegram.message) does.protocol
      && bytes_eq telegram.sender host.peer_name
      && bytes_eq telegram.receiver host.own_name

  -- a telegram that is looked at further: from the peer, and one that the version has
  abbrev pub is_admitted : Behaviour Object → Telegram → HostState Object → Bool
  is_admitted does telegram host = is_from_peer does telegram host && is_in_version host.version telegram.message

  -- a report goes to the peer, where the link accepts it
  unfoldable pub posting : ℕ → Report → HostState Object → HostSoFar Object
  posting now report host =
      let item = writing (telegram_of report host)
      in linked (Sends item) (sending_item now item host.link) host

  unfoldable pub posting_all : ℕ → List Report → HostState Object → HostSoFar Object
  posting_all now [] host = silent host
  posting_all now (first ∷ others) host = then_do (posting now first host) (posting_all now others)

  -- what doesn't belong there closes the link
  unfoldable pub violating : ℕ → HostState Object → HostSoFar Object
  violating now host = linked (Closes reason.State) (closing_by now reason.State host.link) host

  -- the version is answered; nothing more is taken where it is another one
  unfoldable pub answering : Behaviour Object → ℕ → ℕ → HostState Object → HostSoFar Object
  answering does now version host =
      if version == host.version
      then at_stage stage.AwaitsRequest (posting now (said does (VersionAnswer Match host.version)) host)
      else at_stage stage.Refused (posting now (said does (VersionAnswer NoMatch host.version)) host)

  -- the reports of the initial status from a place on, up to the first place that has none
  unfoldable pub initial_status : Behaviour Object → ℕ → ℕ → Object → List Report
  initial_status does zero place object = []
  initial_status does (suc more) place object = report_then (does.status place object) (initial_status does more (place + 1) object)

  abbrev pub telling_status : Behaviour Object → ℕ → HostState Object → HostSoFar Object
  telling_status does now host = posting_all now (initial_status does most_objects 0 host.object) host

  -- the initialisation: start, the status of each object, completed
  unfoldable pub initialising : Behaviour Object → ℕ → HostState Object → HostSoFar Object
  initialising does now host =
      let told = then_do (posting now (said does StartInitialisation) host) (telling_status does now)
      in at_stage stage.Completed (then_do told (posting now (said does InitialisationCompleted)))

  -- the object is told a telegram; one that doesn't fit closes the link
  unfoldable pub commanding : Behaviour Object → ℕ → Telegram → HostState Object → HostSoFar Object
  commanding does now telegram host =
      let after = record host { object = does.after_take now telegram host.object }
      in if does.accepts now telegram host.object then silent after else violating now after

  unfoldable pub following : Behaviour Object → ℕ → List ℕ → Telegram → Meaning → HostState Object → HostSoFar Object
  following does now item telegram (meanings.Checks version) host = acting_on item [] (answering does now version host)
  following does now item telegram meanings.Initialises host = acting_on item [] (initialising does now host)
  following does now item telegram meanings.Commands host = acting_on item (telegram ∷ []) (commanding does now telegram host)
  following does now item telegram meanings.Violates host = violating now host

  -- an item that was taken: whether it is a telegram of this version, whom it is from and for, and then the order
  unfoldable pub acting : Behaviour Object → ℕ → List ℕ → Result Telegram SciFault → HostState Object → HostSoFar Object
  acting does now item (Err fault) host = violating now host
  acting does now item (Ok telegram) host =
      if is_admitted does telegram host
      then following does now item telegram (meaning telegram.message host.stage) host
      else violating now host

  -- the items of a datagram, one after another; those after one that closed the link are dropped
  unfoldable pub acting_all : Behaviour Object → ℕ → List (List ℕ) → HostState Object → HostSoFar Object
  acting_all does now [] host = silent host
  acting_all does now (item ∷ others) host =
      if is_open host.link.phase
      then then_do (acting does now item (reading item) host) (acting_all does now others)
      else silent host

  -- a datagram has come
  unfoldable pub received : ℕ → List ℕ → Receipt → HostState Object → HostSoFar Object
  received now bytes receipt host = record {
    host = risen (record host { link = receipt.link });
    pdus = receipt.pdus;
    calls = Receives bytes ∷ [];
    acted = [];
    told = [];
  }

  unfoldable pub hearing : Behaviour Object → ℕ → List ℕ → HostState Object → HostSoFar Object
  hearing does now bytes host =
      let receipt = receiving now bytes host.link
      in then_do (received now bytes receipt host) (acting_all does now receipt.items)

  -- a report was sent, or isn't to be
  abbrev pub paid : Behaviour Object → HostState Object → HostState Object
  paid does host = record host { object = does.after_paid host.object }

  -- The first owed report: it is sent once the initialisation was completed, and stays owed where the link refuses it;
  -- before, nothing is owed.
  abbrev pub paying_first : Behaviour Object → ℕ → Option Report → HostState Object → HostSoFar Object
  paying_first does now None host = silent host
  paying_first does now (Some report) host =
      if not (is_completed host.stage) then silent (paid does host) else
      let sent = posting now report host
      in if is_ok (answer_to_send now host.link) then record sent { host = paid does sent.host } else sent

  -- whether it was there and is owed no longer
  abbrev pub goes_on : ℕ → Option Report → HostState Object → Bool
  goes_on now None host = false
  goes_on now (Some report) host = not (is_completed host.stage) || is_ok (answer_to_send now host.link)

  -- the owed reports, in the object's order, at most so many
  unfoldable pub paying : Behaviour Object → ℕ → ℕ → HostState Object → HostSoFar Object
  paying does now zero host = silent host
  paying does now (suc more) host =
      let first = paying_first does now (does.owed host.object) host
      in if goes_on now (does.owed host.object) host then then_do first (paying does now more) else first

  -- how a step begins: the clock rules of the link, a loss that they bring, and the object's tick
  unfoldable pub beginning : Behaviour Object → ℕ → HostState Object → HostState Object
  beginning does now host =
      let clocked = fallen does (record host { link = settled now host.link })
      in record clocked { object = does.after_tick now clocked.object }

  unfoldable pub given : Behaviour Object → ℕ → Input → HostState Object → HostSoFar Object
  given does now inputs.Tick host = silent host
  given does now (inputs.Datagram bytes) host = hearing does now bytes.now host
  given does now (inputs.Sense sense) host = silent (record host { object = does.after_sense now sense host.object })

  -- a tick is the link's too
  unfoldable pub beating : ℕ → Input → HostState Object → HostSoFar Object
  beating now inputs.Tick host = linked Ticks (ticking now host.link) host
  beating now _ host = silent host

  -- how it ends: a loss in the step itself, and the moment at which the link dies
  abbrev pub ending : Behaviour Object → HostState Object → HostState Object
  ending does host = keeping does (fallen does host)

  unfoldable pub host_step : Behaviour Object → ℕ → Input → HostState Object → HostSoFar Object
  host_step does now input host =
      let heard = given does now input (beginning does now host)
      in let told = then_do heard (paying does now most_owed)
      in let done = then_do told (beating now input)
      in record done { host = ending does done.host }
