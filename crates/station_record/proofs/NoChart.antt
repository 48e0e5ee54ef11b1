-- Why nothing is drawn, and what that says of the texts.
use Rattle.std.proofs.Common.{◌≡◌, ℕ, List, Result, Ok, Err, refl, subst, sym}
use Rattle.std.specs.Prelude.{IfErr, IfOk, IsErrAnd, IsOk}
use Rattle.replay.specs.ReplayedSession.{CanReplay, Explains as ExplainsStation}
use Rattle.replay.specs.layout.Entries.{Site}
use Rattle.replay.specs.replay_lines.Session.{session}
use Rattle.replay.specs.replay_lines.declared.session.Entry.{Entry}
use Rattle.replay.specs.station_check.Report.{IsSound}
use Rattle.replay.specs.station_check.declared.failure.Failure.{Failure}
use Rattle.replay.specs.station_check.declared.failure.Failure.TheVariants.{Differs, OutOfMemory}
use Rattle.station_record.specs.ChartedSession.{Explains, IsFaulty, IsSessionChart}
use Rattle.station_record.specs.Differences.{DiffersIn}
use Rattle.station_record.specs.inside.ChartedTexts.{IsChartedBy}
use Rattle.station_record.specs.declared.chart.Cut.{Cut}

-- a layout and a record that are read
pub can_replay : (layout text : List ℕ) (site : Site) (entries : List Entry) → IsSound layout site → session site text ≡ Ok entries → CanReplay layout text
can_replay layout text site entries sound says = record { site = site; sound = sound; says = subst IsOk (sym says) refl }

-- a session on a sound layout that isn't applied to its end
pub difference_explains : (layout text : List ℕ) (site : Site) (entries : List Entry) (why : Failure) → IsSound layout site → session site text ≡ Ok entries → DiffersIn site entries why → Explains layout text why
difference_explains layout text site entries (Differs line) sound says so = record { site = site; sound = sound; entries = entries; says = says; differs = so }
difference_explains layout text site entries OutOfMemory sound says so = can_replay layout text site entries sound says
difference_explains layout text site entries other sound says so = absurd so

pub differences_explain : {T : Type 0} (layout text : List ℕ) (site : Site) (entries : List Entry) (tried : Result T Failure) → IsSound layout site → session site text ≡ Ok entries
    → IfErr tried (DiffersIn site entries) → IfErr tried (Explains layout text)
differences_explain layout text site entries (Ok chart) sound says so = tt
differences_explain layout text site entries (Err why) sound says so = difference_explains layout text site entries why sound says so

-- the chart of a session on a sound layout
pub session_drawn : {T : Type 0} (items : T → List ℕ) (layout text : List ℕ) (cut : Cut) (site : Site) (entries : List Entry) (tried : Result T Failure) → IsSound layout site
    → session site text ≡ Ok entries → IfOk tried (λ chart. IsChartedBy site entries cut (items chart)) → IfOk tried (λ chart. IsSessionChart layout text cut (items chart))
session_drawn items layout text cut site entries (Ok chart) sound says so = record {
  site = site;
  sound = sound;
  entries = entries;
  says = says;
  story = so.story;
  told = so.told;
  is = so.is;
}
session_drawn items layout text cut site entries (Err why) sound says so = tt

-- why texts aren't read is no difference
pub is_faulty : {T : Type 0} (layout text : List ℕ) (tried : Result T Failure) (why : Failure) → ExplainsStation layout text why → IsErrAnd tried (λ told. told ≡ why) → IsFaulty tried
is_faulty layout text (Ok answer) why so told = absurd told
is_faulty layout text (Err other) why so told = subst (λ (f : Failure). IsFaulty {A = ℕ} (Err f)) (sym told) (none why so)
  where
    none : (why : Failure) → ExplainsStation layout text why → IsFaulty {A = ℕ} (Err why)
    none (Differs line) so = absurd so
    none other so = tt

-- and it explains that nothing is drawn
pub explained : (layout text : List ℕ) (why : Failure) → ExplainsStation layout text why → Explains layout text why
explained layout text (Differs line) so = absurd so
explained layout text other so = so
