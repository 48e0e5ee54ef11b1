-- What a signal shows, by what its host acted on.
use Rattle.std.specs.Prelude.{◌≡◌, ◌≤◌, true, false, List, [], ◌∷◌, if◌then◌else◌}
use Rattle.sci_telegram.specs.declared.message.Aspect.{Aspect}
use Rattle.sci_telegram.specs.declared.message.Aspect.TheVariants.{Stop}
use Rattle.sci_telegram.specs.declared.telegram.Telegram.{Telegram}
use Rattle.rasta_core.specs.State.{is_open}
use Rattle.rasta_core.specs.Clock.{alive_until}
use Rattle.rasta_core.specs.Ends.{reading_of}
use Rattle.object_host.specs.Host.{is_outside}
use Rattle.object_host.specs.Hosted.{IsSteady}
use Rattle.object_host_laws.specs.World.{World, host_of}
use Rattle.signal_ctl.specs.History.{or_else}
use Rattle.signal_ctl.specs.Lamp.{standing}
use Rattle.signal_ctl.specs.Signal.{SignalState, indicates, signal_behaviour}

-- the last aspect that telegrams indicate, where before them it was this one
unfoldable pub last_indicated : List Telegram → Aspect → Aspect
last_indicated [] last = last
last_indicated (telegram ∷ others) last = last_indicated others (or_else (indicates telegram.message) last)

-- The last aspect that the host acted on in the connection that it is in: stop where there is none, and outside one.
abbrev pub aspect_taken : World SignalState → Aspect
aspect_taken world = if is_open world.ends.server.link.phase then last_indicated world.told Stop else Stop

-- it stands below the moment at which the link dies, and is stop from then on
abbrev pub aspect_due : World SignalState → Aspect
aspect_due world = standing (aspect_taken world) (alive_until world.ends.server.link) (reading_of world.ends.server.clock)

-- What a signal in its host was told. The clock alone tells it of no loss, but then its moment has come.
pub record IsTold (world : World SignalState) : Type 0 where
  pub steady : IsSteady signal_behaviour (host_of world)
  pub until : world.object.lamp.until ≡ alive_until world.ends.server.link
  pub inside : is_open world.ends.server.link.phase ≡ true → world.object.lamp.indicated ≡ last_indicated world.told Stop
  pub late : is_open world.ends.server.link.phase ≡ false → is_outside world.stage ≡ false
      → alive_until world.ends.server.link ≤ reading_of world.ends.server.clock
