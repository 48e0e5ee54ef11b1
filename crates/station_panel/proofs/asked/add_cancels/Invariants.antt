use Rattle.std.proofs.Common.{◌≡◌, ◌-◌, ◌++◌}
use Rattle.station_panel.specs.Asked.{cancels}
use Rattle.station_panel.proofs.asked.add_cancels.Given as goal

-- those so far, and after them those that are left
abbrev pub invariant-loop-place : goal.invariant-loop-place
invariant-loop-place l = l.events.items ++ cancels l.place (l.routes - l.place) ≡ l.initial.events.items ++ cancels 0 l.routes
