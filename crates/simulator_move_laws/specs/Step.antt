-- What a step of an interlocking leaves of the far ends.
use Rattle.std.specs.Prelude.{◌≡◌, Bool, [], if◌then◌else◌}
use Rattle.simulator_machine.specs.Link.{Before}
use Rattle.simulator_machine.specs.Point.{Point as MachinePoint, reports_made}
use Rattle.simulator_machine.specs.Signal.{Signal as MachineSignal}

-- Nothing that the interlocking does in a step changes the far end of a signal's link.
pub record SignalStays (old new : MachineSignal) : Type 0 where
  pub server : new.link.server ≡ old.link.server
  pub done : new.done ≡ old.done

-- Nor that of a point's; it drives no point, and lets none lie elsewhere.
pub record PointStays (old new : MachinePoint) : Type 0 where
  pub server : new.link.server ≡ old.link.server
  pub taken : new.taken ≡ old.taken
  pub reports : reports_made new ≡ reports_made old
  pub driven : new.driven ≡ old.driven
  pub position : new.position ≡ old.position

-- A whole step may begin a connection besides. Its server is before it then, and its lists are empty.
pub record SignalIsLeft (begun : Bool) (old new : MachineSignal) : Type 0 where
  pub server : new.link.server ≡ (if begun then Before else old.link.server)
  pub done : new.done ≡ (if begun then [] else old.done)

pub record PointIsLeft (begun : Bool) (old new : MachinePoint) : Type 0 where
  pub server : new.link.server ≡ (if begun then Before else old.link.server)
  pub taken : new.taken ≡ (if begun then 0 else old.taken)
  pub reports : reports_made new ≡ (if begun then [] else reports_made old)
  pub driven : new.driven ≡ old.driven
  pub position : new.position ≡ old.position
