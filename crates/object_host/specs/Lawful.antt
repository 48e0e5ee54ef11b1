-- The law of every field object. It speaks of the object's own state, so the output falls by the clock alone,
-- whatever the object's own program does or leaves undone.
use Rattle.std.specs.Prelude.{◌≡◌, ℕ, ◌≤◌, true, None}
use Rattle.sci_telegram.specs.declared.telegram.Telegram.{Telegram}
use Rattle.object_host.specs.declared.sense.Sense.{Sense}
use Rattle.object_host.specs.Behaviour.{Behaviour}

pub record IsLawful {Object : Type 0} (does : Behaviour Object) : Type 0 where
  -- at and past the moment last kept its output is restrictive
  pub dies : (now : ℕ) (object : Object) → does.until object ≤ now → does.is_restrictive now object ≡ true
  -- and at every clock reading while it is idle
  pub idle_is_restrictive : (now : ℕ) (object : Object) → does.is_idle object ≡ true → does.is_restrictive now object ≡ true
  -- after a loss it is idle and owes nothing
  pub loss_idles : (object : Object) → does.is_idle (does.after_loss object) ≡ true
  pub loss_forgets : (object : Object) → does.owed (does.after_loss object) ≡ None
  -- what commands nothing leaves it idle
  pub tick_idles : (now : ℕ) (object : Object) → does.is_idle object ≡ true → does.is_idle (does.after_tick now object) ≡ true
  pub sense_idles : (now : ℕ) (sense : Sense) (object : Object) → does.is_idle object ≡ true → does.is_idle (does.after_sense now sense object) ≡ true
  pub keep_idles : (moment : ℕ) (object : Object) → does.is_idle object ≡ true → does.is_idle (does.after_keep moment object) ≡ true
  pub paid_idles : (object : Object) → does.is_idle object ≡ true → does.is_idle (does.after_paid object) ≡ true
  -- the moment kept is none after the one last told, and nothing else changes it
  pub keeps : (moment : ℕ) (object : Object) → does.until (does.after_keep moment object) ≤ moment
  pub take_keeps : (now : ℕ) (telegram : Telegram) (object : Object) → does.until (does.after_take now telegram object) ≡ does.until object
  pub tick_keeps : (now : ℕ) (object : Object) → does.until (does.after_tick now object) ≡ does.until object
  pub sense_keeps : (now : ℕ) (sense : Sense) (object : Object) → does.until (does.after_sense now sense object) ≡ does.until object
  pub paid_keeps : (object : Object) → does.until (does.after_paid object) ≡ does.until object
  pub loss_keeps : (object : Object) → does.until (does.after_loss object) ≡ does.until object
