use Rattle.simulator_field.specs.Field.{world_of}
use Rattle.simulator.proofs.parts.Parts.snapshot.Goals as goal

pub returns : goal.returns
unfolding world_of
returns c = record { shows = c.shows.ensures; held = c.held.ensures; position = c.stands.ensures; driven = c.drives.ensures }
