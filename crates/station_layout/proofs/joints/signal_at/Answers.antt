use Rattle.station_layout.proofs.SignalFound.{begins}
use Rattle.station_layout.proofs.joints.signal_at.Goals as goal

pub loop-place-init : goal.loop-place-init
loop-place-init c = begins c.args.port c.args.signals.now
