-- What is told of a session from a first world on.
use Rattle.std.proofs.Common.{List, Result, Ok, Err, OnOk}
use Rattle.std.specs.Prelude.{IfErr, IfOk}
use Rattle.replay.specs.World.{AnswersSame, IsFirst}
use Rattle.replay.specs.layout.Entries.{Site}
use Rattle.replay.specs.simulator_spec.Tried.{Played}
use Rattle.replay.specs.replay_lines.declared.session.Entry.{Entry}
use Rattle.replay.specs.station_check.declared.failure.Failure.{Failure}
use Rattle.replay.specs.station_check.declared.failure.Failure.TheVariants.{Differs, OutOfMemory}
use Rattle.station_record.specs.Differences.{DiffersFrom, DiffersIn}
use Rattle.station_record.specs.Story.{IsStoryOf}
use Rattle.station_record.specs.declared.story.Story.{Story}

pub story_told : (site : Site) (first : Played) (entries : List Entry) (told : Result Story Failure) → IsFirst site first → OnOk told (AnswersSame first entries) → IfOk told (IsStoryOf first entries)
    → IfOk told (λ story. (first : Played) × IsFirst site first × AnswersSame first entries × IsStoryOf first entries story)
story_told site first entries (Ok story) begins agree is = (first, begins, agree, is)
story_told site first entries (Err why) begins agree is = tt

-- what differs from a first world on
differs_in : (site : Site) (first : Played) (entries : List Entry) (why : Failure) → IsFirst site first → DiffersFrom first entries why → DiffersIn site entries why
differs_in site first entries (Differs line) begins so = (first, begins, so)
differs_in site first entries OutOfMemory begins so = tt
differs_in site first entries other begins so = absurd so

pub story_differs : (site : Site) (first : Played) (entries : List Entry) (told : Result Story Failure) → IsFirst site first → IfErr told (DiffersFrom first entries) → IfErr told (DiffersIn site entries)
story_differs site first entries (Ok story) begins so = tt
story_differs site first entries (Err why) begins so = differs_in site first entries why begins so
