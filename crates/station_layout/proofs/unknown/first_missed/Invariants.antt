use Rattle.std.proofs.Common.{◌≡◌, drop}
use Rattle.station_layout.specs.UnknownAdvice.{first_missed}
use Rattle.station_layout.proofs.unknown.first_missed.Given as goal

abbrev pub invariant-loop-item : goal.invariant-loop-item
invariant-loop-item g l =
    first_missed l.written l.place l.key (g.T.Naming.named l.key) l.at (drop l.item-index l.items) ≡ first_missed l.written l.place l.key (g.T.Naming.named l.key) 0 l.items
