-- What the private functions of a host say of themselves: each performs a part of a step.
use Rattle.std.specs.Prelude.{◌≡◌, ℕ, suc, ◌+◌, ◌-◌, ◌≤◌, length, if◌then◌else◌}
use Rattle.rasta_core.specs.Calls.{IsAt}
use Rattle.rasta_core.specs.Outbox.{OutboxState, posted}
use Rattle.rasta_core.specs.Parameters.{window_size}
use Rattle.rasta_core.specs.State.{LinkState, is_open}
use Rattle.object_host.specs.Host.{HostState, HostSoFar}
use Rattle.object_host.specs.Made.{AreItems}
use Rattle.object_host.specs.declared.input.Input.{Input}
use Rattle.object_host.specs.declared.input.Input.TheVariants as inputs

-- How many PDUs a link may still hand out of itself, but for heartbeats: the items for which its window has room, and the PDU that
-- closes its connection. In no connection there are none.
unfoldable pub may_send : LinkState → ℕ
may_send link = if is_open link.phase then suc (window_size - length link.waiting) else 0

-- a tick of the link may bring a heartbeat, or the close, beside what comes before it
abbrev pub by_tick : Input → ℕ
by_tick inputs.Tick = 1
by_tick _ = 0

abbrev pub before_tick : Input → ℕ
before_tick inputs.Tick = 22
before_tick _ = 23

-- A part was performed on a host with an outbox: `new` and `outbox` are what it leaves of `old` and `box`. What it handed out, and
-- what its link may still hand out after it, are at most so many.
pub record IsPerformed {Object : Type 0} (most now : ℕ) (part : HostSoFar Object) (old new : HostState Object) (box outbox : OutboxState) : Type 0 where
  pub host : new ≡ part.host
  -- its link has this clock, and the identity that it had
  pub kept : IsAt now old.link part.host.link
  pub posts : outbox ≡ posted old.link.identity.key part.pdus box
  pub few : length part.pdus + may_send part.host.link ≤ most
  -- what it sends are items
  pub items : AreItems part.calls
