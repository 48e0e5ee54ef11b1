-- the law that the body calls says what a step does
use Rattle.rasta_core.specs.Ends.{reading_of}
use Rattle.object_host.specs.declared.input.Input.TheVariants.{Tick}
use Rattle.object_host_laws.specs.World.{host_of}
use Rattle.object_host_laws.proofs.Found.{found_inside, found_outside, out_answered}
use Rattle.object_host_laws.proofs.controllers.steps_find_what_was_reported.Goals as goal

pub returns-clause-inside : goal.returns-clause-inside
returns-clause-inside c world = found_inside Tick _ world (c.point_makes_a_step.ensures (reading_of world.ends.server.clock) Tick (host_of world))

pub returns-clause-outside : goal.returns-clause-outside
returns-clause-outside c world = found_outside Tick _ world (c.point_makes_a_step.ensures (reading_of world.ends.server.clock) Tick (host_of world))

pub returns-clause-undriven : goal.returns-clause-undriven
returns-clause-undriven c world = out_answered Tick _ world (c.point_makes_a_step.ensures (reading_of world.ends.server.clock) Tick (host_of world))
