use Rattle.replay.specs.World.{played}
use Rattle.station_record.proofs.Stories.{story_differs, story_told}
use Rattle.station_record.proofs.story.story_of.Goals as goal

pub returns-clause-told : goal.returns-clause-told
returns-clause-told c = story_told c.args.table (played c.in_ok-world.world) c.args.entries.now c.story_from-story.result c.in_ok-world.ensures c.story_from-story.ensures.agree c.story_from-story.ensures.told

pub returns-clause-differs : goal.returns-clause-differs
returns-clause-differs c = story_differs c.args.table (played c.in_ok-world.world) c.args.entries.now c.story_from-story.result c.in_ok-world.ensures c.story_from-story.ensures.differs
