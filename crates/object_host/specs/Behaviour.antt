-- What a field object does when it is told something: the exact meaning of each call of its controller, of the
-- object as it was before the call.
use Rattle.std.specs.Prelude.{ℕ, Bool, Option}
use Rattle.sci_telegram.specs.declared.message.Protocol.{Protocol}
use Rattle.sci_telegram.specs.declared.telegram.Telegram.{Telegram}
use Rattle.object_host.specs.declared.report.Report.{Report}
use Rattle.object_host.specs.declared.sense.Sense.{Sense}

pub record Behaviour (Object : Type 0) : Type 0 where
  -- the protocol of its telegrams
  pub protocol : Protocol
  -- at a clock reading: whether a telegram fits, and the object after it, whether it fits or not
  pub accepts : ℕ → Telegram → Object → Bool
  pub after_take : ℕ → Telegram → Object → Object
  -- after it was told a clock reading
  pub after_tick : ℕ → Object → Object
  -- after a contact has changed, at a clock reading
  pub after_sense : ℕ → Sense → Object → Object
  -- after it was told the moment of its own clock from which it has to be restrictive
  pub after_keep : ℕ → Object → Object
  -- the moment from which it is: none after the one last told
  pub until : Object → ℕ
  -- the first report that it owes, and the object after that was sent
  pub owed : Object → Option Report
  pub after_paid : Object → Object
  -- the report at a place of its initial status, counted from 0: none beyond the last
  pub status : ℕ → Object → Option Report
  -- after its link was lost
  pub after_loss : Object → Object
  -- whether its output is restrictive at a clock reading: stop, no drive
  pub is_restrictive : ℕ → Object → Bool
  -- whether nothing was commanded since the last loss whose output could be other than restrictive
  pub is_idle : Object → Bool
