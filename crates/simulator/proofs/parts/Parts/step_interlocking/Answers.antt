use Rattle.ixl.specs.Interlocking.{meant, told}
use Rattle.simulator.proofs.PartsOfWorld.{station_goes}
use Rattle.simulator.proofs.parts.Parts.step_interlocking.Goals as goal

pub returns-clause-goes : goal.returns-clause-goes
returns-clause-goes c = station_goes (meant c.args.input) c.args.self.now c.step.new.self c.step.new.network (told c.step.result) c.requires.whole c.step.ensures
