use Rattle.std.proofs.Common.{sym, subst}
use Rattle.simulator_spec.specs.simulator_event.declared.event.Event.{Event}
use Rattle.simulator.specs.inside.EventTest.{Tells}
use Rattle.simulator.specs.inside.Parts.{site_of, seen}
use Rattle.simulator.proofs.parts.Parts.tested.Goals as goal

pub returns-in-Occupy : goal.returns-in-Occupy
returns-in-Occupy c =
    let Told : Event → Type 0 = λ e. Tells (site_of c.args.self.now) e (seen c.args.self.now) c.tested_section.result
    in subst Told (sym c.in-Occupy.is) (c.tested_section.ensures c.in-Occupy.occupancy)
