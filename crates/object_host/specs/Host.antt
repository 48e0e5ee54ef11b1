-- A host: the link of an object controller, the stage of its connection, and its object.
use Rattle.std.specs.Prelude.{ℕ, ◌&&◌, not, Bool, true, false, List, [], ◌∷◌, ◌++◌, Option, Some, None, if◌then◌else◌}
use Rattle.sci_telegram.specs.declared.message.Initialisation.{Initialisation}
use Rattle.sci_telegram.specs.declared.message.Message.TheVariants as message
use Rattle.sci_telegram.specs.declared.telegram.Telegram.{Telegram}
use Rattle.rasta_pdu.specs.declared.pdu.Pdu.{Pdu}
use Rattle.rasta_core.specs.State.{LinkState, is_open}
use Rattle.rasta_core.specs.Clock.{alive_until}
use Rattle.rasta_core.specs.PdusHandedOut.{Step}
use Rattle.rasta_core.specs.reason.Reason.{Reason}
use Rattle.object_host.specs.Behaviour.{Behaviour}
use Rattle.object_host.specs.declared.report.Report.{Report}
use Rattle.object_host.specs.declared.stage.Stage.{Stage}
use Rattle.object_host.specs.declared.stage.Stage.TheVariants as stage

pub record HostState (Object : Type 0) : Type 0 where
  pub link : LinkState
  -- how far the connection has come
  pub stage : Stage
  pub object : Object
  -- the names of the controller and of its peer, the interlocking
  pub own_name : List ℕ
  pub peer_name : List ℕ
  -- the version of the telegrams that it speaks
  pub version : ℕ

-- a call that a host makes of its link; a server opens none
pub data LinkCall : Type 0 where
  Ticks : LinkCall
  Closes : Reason → LinkCall
  Sends : List ℕ → LinkCall
  Receives : List ℕ → LinkCall

-- What a part of a step does: the host after it, the PDUs handed out, the calls made of the link, the items taken
-- that were acted on, and the telegrams that the object was told.
pub record HostSoFar (Object : Type 0) : Type 0 where
  pub host : HostState Object
  pub pdus : List Pdu
  pub calls : List LinkCall
  pub acted : List (List ℕ)
  pub told : List Telegram

abbrev pub is_outside : Stage → Bool
is_outside stage.Outside = true
is_outside _ = false

abbrev pub is_completed : Stage → Bool
is_completed stage.Completed = true
is_completed _ = false

module _ {Object : Type 0} where
  abbrev pub silent : HostState Object → HostSoFar Object
  silent host = record { host = host; pdus = []; calls = []; acted = []; told = [] }

  -- one part after another
  abbrev pub then_do : HostSoFar Object → (HostState Object → HostSoFar Object) → HostSoFar Object
  then_do first next =
      let second = next first.host
      in record {
        host = second.host;
        pdus = first.pdus ++ second.pdus;
        calls = first.calls ++ second.calls;
        acted = first.acted ++ second.acted;
        told = first.told ++ second.told;
      }

  -- a call of the link and what it does
  abbrev pub linked : LinkCall → Step → HostState Object → HostSoFar Object
  linked call step host = record {
    host = record host { link = step.link };
    pdus = step.pdus;
    calls = call ∷ [];
    acted = [];
    told = [];
  }

  abbrev pub at_stage : Stage → HostSoFar Object → HostSoFar Object
  at_stage stage part = record part { host = record part.host { stage = stage } }

  -- an item was acted on, and the object was told these telegrams
  abbrev pub acting_on : List ℕ → List Telegram → HostSoFar Object → HostSoFar Object
  acting_on item told part = record part { acted = item ∷ []; told = told }

  -- a connection that has opened begins with the version check
  unfoldable pub risen : HostState Object → HostState Object
  risen host = if is_outside host.stage && is_open host.link.phase then record host { stage = stage.AwaitsCheck } else host

  -- where the link has closed, the object is told of the loss
  unfoldable pub fallen : Behaviour Object → HostState Object → HostState Object
  fallen does host =
      if not (is_outside host.stage) && not (is_open host.link.phase)
      then record host { stage = stage.Outside; object = does.after_loss host.object }
      else host

  -- the object is told when its link dies
  unfoldable pub keeping : Behaviour Object → HostState Object → HostState Object
  keeping does host = record host { object = does.after_keep (alive_until host.link) host.object }

-- the sender of a report: the section that it is about, and else the controller
abbrev pub sender_of : Option (List ℕ) → List ℕ → List ℕ
sender_of None own_name = own_name
sender_of (Some section) own_name = section

abbrev pub telegram_of : {Object : Type 0} → Report → HostState Object → Telegram
telegram_of report host = record {
  sender = sender_of report.section host.own_name;
  receiver = host.peer_name;
  message = report.message;
}

-- what a host itself says, in its object's protocol
abbrev pub said : {Object : Type 0} → Behaviour Object → Initialisation → Report
said does what = record { section = None; message = message.Initialisation does.protocol what }
