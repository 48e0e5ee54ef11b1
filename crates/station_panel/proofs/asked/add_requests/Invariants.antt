use Rattle.std.proofs.Common.{◌≡◌, ◌++◌, map, take}
use Rattle.station_panel.specs.Asked.{requested}
use Rattle.station_panel.proofs.asked.add_requests.Given as goal

-- the routes so far were added
abbrev pub invariant-loop-route : goal.invariant-loop-route
invariant-loop-route l = l.events.items ≡ l.initial.events.items ++ map requested (take l.route-index l.routes)
