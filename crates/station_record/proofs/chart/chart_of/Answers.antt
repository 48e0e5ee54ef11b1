use Rattle.std.proofs.Common.{◌∙◌, List, subst}
use Rattle.replay.specs.layout.Entries.{Site}
use Rattle.replay.specs.World.{AnswersSame, IsFirst}
use Rattle.replay.specs.simulator_spec.Tried.{Played}
use Rattle.replay.specs.replay_lines.declared.session.Entry.{Entry}
use Rattle.station_record.specs.ChartedSession.{IsTextOf}
use Rattle.station_record.specs.Differences.{DiffersIn}
use Rattle.station_record.specs.Story.{IsStoryOf}
use Rattle.station_record.proofs.Ended.{told_on}
use Rattle.station_record.proofs.chart.chart_of.Goals as goal

pub returns-in_err-story-clause-differs : goal.returns-in_err-story-clause-differs
returns-in_err-story-clause-differs c =
    let why = c.in_err-story.field-0.0
    in let entries = c.args.texts.now.entries.items
    in let differs = subst (λ (entries : List Entry). DiffersIn c.in_ok-copy.copy entries why) c.deref.ensures.value c.in_err-story.ensures.differs
    in told_on (DiffersIn c.args.texts.now.table entries) c.from_residual-in_err-story.result why c.from_residual-in_err-story.ensures.1
    (subst (λ (site : Site). DiffersIn site entries why) c.in_ok-copy.ensures differs)

pub returns-clause-drawn : goal.returns-clause-drawn
returns-clause-drawn c =
    let story = c.in_ok-story.story
    in let Told : Site → List Entry → Type 0 = λ site entries. (first : Played) × IsFirst site first × AnswersSame first entries × IsStoryOf first entries story
    in let told = subst (Told c.in_ok-copy.copy) c.deref.ensures.value c.in_ok-story.ensures.told
    in record {
      story = story;
      told = subst (λ (site : Site). Told site c.args.texts.now.entries.items) c.in_ok-copy.ensures told;
      is = subst (λ (drawn : Site). IsTextOf drawn c.args.cut story c.in_ok-text.field-0.items) c.layout.ensures.entries c.in_ok-text.ensures;
    }
