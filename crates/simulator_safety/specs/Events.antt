-- Which events are the controllers' own.
use Rattle.std.specs.Prelude.{◌≢◌}
use Rattle.simulator_link_laws.specs.simulator_event.declared.event.Event.{Event}
use Rattle.simulator_link_laws.specs.simulator_event.declared.event.Event.TheVariants as event

-- an event at a signal, a point or a detector, or a loss: the interlocking is the node 0
abbrev pub IsOfControllers : Event → Type 0
IsOfControllers (event.Request command) = ⊥
IsOfControllers (event.Occupy section occupancy) = Unit {0}
IsOfControllers (event.Tick node) = node.0 ≢ 0
IsOfControllers (event.Time elapsed clocks) = ⊥
IsOfControllers (event.Deliver node bytes) = node.0 ≢ 0
IsOfControllers (event.Lose bytes) = Unit {0}
IsOfControllers (event.Reach point position) = Unit {0}
IsOfControllers (event.Restart node clock first) = node.0 ≢ 0
