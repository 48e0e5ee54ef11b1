-- What a list of events leads to, and whether it can happen.
use Rattle.std.specs.Prelude.{◌≡◌, List, [], ◌∷◌, None}
use Rattle.ixl_spec.specs.layout.Entries.{Site}
use Rattle.ixl_spec.specs.Table.{Table}
use Rattle.simulator_event.specs.declared.event.Event.{Event}
use Rattle.simulator_spec.specs.Happens.{happens}
use Rattle.simulator_spec.specs.Refusals.{refusal}
use Rattle.simulator_spec.specs.State.{WorldState}

-- a list of events, one after another
abbrev pub after_all : Site → Table → List Event → WorldState → WorldState
after_all site table [] world = world
after_all site table (first ∷ others) world = after_all site table others (happens site table first world)

-- each of them can happen where it comes
abbrev pub CanHappen : Site → Table → List Event → WorldState → Type 0
CanHappen site table [] world = Unit {0}
CanHappen site table (first ∷ others) world = (refusal site first world ≡ None) × CanHappen site table others (happens site table first world)
