-- What is drawn of texts without a fault.
use Rattle.std.specs.Prelude.{ℕ, List}
use Rattle.replay.specs.World.{AnswersSame, IsFirst}
use Rattle.replay.specs.layout.Entries.{Site}
use Rattle.replay.specs.simulator_spec.Tried.{Played}
use Rattle.replay.specs.replay_lines.declared.session.Entry.{Entry}
use Rattle.station_record.specs.ChartedSession.{IsTextOf}
use Rattle.station_record.specs.Story.{IsStoryOf}
use Rattle.station_record.specs.declared.chart.Cut.{Cut}
use Rattle.station_record.specs.declared.story.Story.{Story}

-- A first world of a site answers each event as it was recorded, and a text is the chart of what happens to it.
pub record IsChartedBy (site : Site) (entries : List Entry) (cut : Cut) (text : List ℕ) : Type 0 where
  pub story : Story
  pub told : (first : Played) × IsFirst site first × AnswersSame first entries × IsStoryOf first entries story
  pub is : IsTextOf site cut story text
