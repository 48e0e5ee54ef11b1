use Rattle.std.proofs.Common.{◌≡◌, ◌++◌, take}
use Rattle.std.specs.List.{flat_map}
use Rattle.station_panel.specs.Asked.{events_by}
use Rattle.station_panel.proofs.asked.add_events.Given as goal

-- what the commands so far ask for was added
abbrev pub invariant-loop-command : goal.invariant-loop-command
invariant-loop-command l = l.events.items ≡ l.initial.events.items ++ flat_map (events_by l.routes) (take l.command-index l.commands)
