-- A mark as the code has it.
use Rattle.node_record.specs.NodeChanges.{Mark}
use Rattle.node_record.specs.declared.node_story.Mark.{Mark as Code}

abbrev pub marked : Code → Mark
marked mark = record { line = mark.line; time = mark.time; node = mark.node; words = mark.words.now }
