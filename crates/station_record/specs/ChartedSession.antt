-- What is written of a recorded session that is drawn, and what is told where none is drawn.
use Rattle.std.specs.Prelude.{◌≡◌, ℕ, ◌*◌, ◌-◌, ◌^◌, min, List, map, Option, Some, None, Result, Ok, Err}
use Rattle.std.specs.Io.KnownBytes.{Appends}
use Rattle.drawing.specs.Svg.{svg_text}
use Rattle.drawing.specs.declared.picture.Picture.{Picture}
use Rattle.lane_chart.specs.Chart.{IsChartOf}
use Rattle.lane_chart.specs.Drawn.{drawn_rows, seen_row}
use Rattle.lane_chart.specs.declared.drawn.DrawnRow.{DrawnRow}
use Rattle.lane_chart.specs.declared.scale.Window.{Window}
use Rattle.replay.specs.World.{AnswersSame, IsFirst}
use Rattle.replay.specs.layout.Entries.{Site}
use Rattle.replay.specs.simulator_spec.Tried.{Played}
use Rattle.replay.specs.replay_lines.Session.{session}
use Rattle.replay.specs.replay_lines.declared.session.Entry.{Entry}
use Rattle.replay.specs.ReplayedSession.{Explains as ExplainsStation}
use Rattle.replay.specs.station_check.Report.{IsSound}
use Rattle.replay.specs.station_check.declared.failure.Failure.{Failure}
use Rattle.replay.specs.station_check.declared.failure.Failure.TheVariants.{Differs}
use Rattle.station_record.specs.Differences.{DiffersIn}
use Rattle.station_record.specs.Story.{IsStoryOf}
use Rattle.station_record.specs.declared.chart.Cut.{Cut}
use Rattle.station_record.specs.declared.story.Story.{Story}

-- a time in microseconds, or another one where none is given; products end at the greatest of a machine word
abbrev pub micros_or : ℕ → Option ℕ → ℕ
micros_or otherwise (Some millis) = min (millis * 1000) (2 ^ 64 - 1)
micros_or otherwise None = otherwise

-- The part of true time that is drawn: no time after the end of the session.
abbrev pub window_of : Cut → ℕ → Window
window_of cut end = record { from = micros_or 0 cut.from; to = min (micros_or end cut.to) end }

-- A text is the chart of a story: it draws the changes of each lane in the row of that lane, and each command and restart.
pub record IsTextOf (site : Site) (cut : Cut) (story : Story) (text : List ℕ) : Type 0 where
  pub rows : List DrawnRow
  pub drawn : map seen_row rows ≡ drawn_rows site (window_of cut story.end) story.changes.items
  pub picture : Picture
  pub is : IsChartOf site (window_of cut story.end) rows story.happenings.items picture
  pub text_is : text ≡ svg_text picture

-- The layout is sound, no line of the record is faulty, a first world of the layout answers each event as it was recorded,
-- and a text is the chart of what happens to it.
pub record IsSessionChart (layout text : List ℕ) (cut : Cut) (chart : List ℕ) : Type 0 where
  pub site : Site
  pub sound : IsSound layout site
  pub entries : List Entry
  pub says : session site text ≡ Ok entries
  pub story : Story
  pub told : (first : Played) × IsFirst site first × AnswersSame first entries × IsStoryOf first entries story
  pub is : IsTextOf site cut story chart

-- Such a chart was written.
abbrev pub IsCharted : List ℕ → List ℕ → Cut → Option (List ℕ) → Option (List ℕ) → Type 0
IsCharted layout text cut before now = (chart : List ℕ) × IsSessionChart layout text cut chart × Appends before now chart

-- ---- why there is none

-- A call has failed, and not since an event differs.
abbrev pub IsFaulty : {A : Type 0} → Result A Failure → Type 0
IsFaulty (Err (Differs line)) = ⊥
IsFaulty (Err why) = Unit {0}
IsFaulty (Ok _) = ⊥

-- The texts are without a fault, but an event answers otherwise than it was recorded, the first at this line.
pub record DiffersAt (layout text : List ℕ) (line : ℕ) : Type 0 where
  pub site : Site
  pub sound : IsSound layout site
  pub entries : List Entry
  pub says : session site text ≡ Ok entries
  pub differs : DiffersIn site entries (Differs line)

-- Why nothing is drawn: as a session isn't replayed, or an event answers otherwise than it was recorded.
abbrev pub Explains : List ℕ → List ℕ → Failure → Type 0
Explains layout text (Differs line) = DiffersAt layout text line
Explains layout text why = ExplainsStation layout text why
