-- Each final report answers its move, where contacts tell of a change only while the point is driven.
use Rattle.std.proofs.Common.{◌≡◌, ℕ, nat_le, inl, inr, Bool, true, false, List, [], ◌∷◌, Option, Some, None, is_some, refl, ap, sym, ◌∙◌, subst, if◌then◌else◌}
use Rattle.std.proofs.lemmas.Bool.{false≢true}
use Rattle.sci_telegram.specs.declared.message.Side.{Side}
use Rattle.sci_telegram.specs.declared.message.Side.TheVariants as side
use Rattle.sci_telegram.specs.declared.message.Position.{Position}
use Rattle.sci_telegram.specs.declared.message.Position.TheVariants as position
use Rattle.sci_telegram.specs.declared.message.PointMessage.TheVariants.{PointPosition, Timeout}
use Rattle.sci_telegram.specs.declared.message.Message.TheVariants.{Point}
use Rattle.sci_telegram.specs.declared.telegram.Telegram.{Telegram}
use Rattle.object_host.specs.declared.report.Report.{Report}
use Rattle.object_host.specs.declared.sense.Sense.{Sense}
use Rattle.object_host.specs.declared.sense.Sense.TheVariants as sense
use Rattle.point_ctl.specs.declared.progress.Progress.{Progress}
use Rattle.point_ctl.specs.declared.progress.Progress.TheVariants.{Answered, Driving, Arrived, TimedOut}
use Rattle.point_ctl.specs.Drive.{is_at, drive_end, commanded_by, begun, limited, reached, driven, own_report}
use Rattle.object_host.specs.Object.{ObjectCall, Takes, Ticks, Senses, Keeps, Pays, Loses}
use Rattle.point_ctl.specs.History.{History, AnswerEach, Reported, IsReported, IsMovedByItsDrive, AreMovedByTheDrive, position_of, one_more, next, told}
use Rattle.point_ctl.proofs.Once.{of}

-- a position at a side is the one that is commanded there
lies_there : (side : Side) (position : Position) → is_at side position ≡ true → position ≡ position_of side
lies_there side.Right position.Right at = refl
lies_there side.Right position.Left at = absurd (false≢true at)
lies_there side.Right position.NoEndPosition at = absurd (false≢true at)
lies_there side.Left position.Right at = absurd (false≢true at)
lies_there side.Left position.Left at = refl
lies_there side.Left position.NoEndPosition at = absurd (false≢true at)

begins : (side : Side) (now : ℕ) (sensed : Position) (moves : List Side) (reports : List Report) → AnswerEach moves reports
    → (b : Bool) → is_at side sensed ≡ b → Reported (if b then Arrived else Driving side now) sensed (side ∷ moves) reports
begins side now sensed moves reports each true at = (lies_there side sensed at, each)
begins side now sensed moves reports each false at = (refl, each)

takes_order : (order : Option Side) (now : ℕ) (sensed : Position) (until : ℕ) (moves : List Side) (reports : List Report)
    → AnswerEach moves reports
    → Reported (begun now (record { sensed = sensed; progress = Answered; until = until }) order) sensed (one_more order moves) reports
takes_order None now sensed until moves reports each = each
takes_order (Some side) now sensed until moves reports each = begins side now sensed moves reports each (is_at side sensed) refl

takes : (progress : Progress) (now : ℕ) (telegram : Telegram) (sensed : Position) (until : ℕ) (moves : List Side) (reports : List Report)
    → Reported progress sensed moves reports
    → IsReported (next (Takes now telegram) (of progress sensed until moves reports))
takes Answered now telegram sensed until moves reports each = record { reported = takes_order (commanded_by telegram.message) now sensed until moves reports each }
takes (Driving side since) now telegram sensed until moves reports each = record { reported = each }
takes Arrived now telegram sensed until moves reports each = record { reported = each }
takes TimedOut now telegram sensed until moves reports each = record { reported = each }

limits_drive : (moves : List Side) (side : Side) (since : ℕ) (sensed : Position) (reports : List Report) (b : Bool)
    → Reported (Driving side since) sensed moves reports
    → Reported (if b then TimedOut else Driving side since) sensed moves reports
limits_drive [] side since sensed reports b each = absurd each
limits_drive (move ∷ moves) side since sensed reports true each = each.1
limits_drive (move ∷ moves) side since sensed reports false each = each

limits : (progress : Progress) (now : ℕ) (sensed : Position) (moves : List Side) (reports : List Report)
    → Reported progress sensed moves reports → Reported (limited now progress) sensed moves reports
limits Answered now sensed moves reports each = each
limits (Driving side since) now sensed moves reports each = limits_drive moves side since sensed reports (nat_le (drive_end since) now) each
limits Arrived now sensed moves reports each = each
limits TimedOut now sensed moves reports each = each

reaches_there : (moves : List Side) (side : Side) (since : ℕ) (position sensed : Position) (reports : List Report) (b : Bool)
    → is_at side position ≡ b → Reported (Driving side since) sensed moves reports
    → Reported (if b then Arrived else Driving side since) position moves reports
reaches_there [] side since position sensed reports b at each = absurd each
reaches_there (move ∷ moves) side since position sensed reports true at each =
    (lies_there side position at ∙ ap position_of each.0, each.1)
reaches_there (move ∷ moves) side since position sensed reports false at each = each

-- the same position again changes nothing
again : (progress : Progress) (sensed : Position) (moves : List Side) (reports : List Report)
    → Reported progress sensed moves reports → Reported (reached sensed progress) sensed moves reports
again Answered sensed moves reports each = each
again (Driving side since) sensed moves reports each =
    reaches_there moves side since sensed sensed reports (is_at side sensed) refl each
again Arrived sensed moves reports each = each
again TimedOut sensed moves reports each = each

-- where the drive hasn't ended at its limit
reaches_in_time : (side : Side) (since now until : ℕ) (position sensed : Position) (moves : List Side) (reports : List Report) (b : Bool)
    → Reported (Driving side since) sensed moves reports
    → Reported (reached position (if b then TimedOut else Driving side since)) position moves reports
reaches_in_time side since now until position sensed [] reports b each = absurd each
reaches_in_time side since now until position sensed (move ∷ moves) reports true each = each.1
reaches_in_time side since now until position sensed (move ∷ moves) reports false each =
    reaches_there (move ∷ moves) side since position sensed reports (is_at side position) refl each

reaches_driven : (progress : Progress) (now until : ℕ) (position sensed : Position) (moves : List Side) (reports : List Report)
    → is_some (driven now until progress) ≡ true → Reported progress sensed moves reports
    → Reported (reached position (limited now progress)) position moves reports
reaches_driven Answered now until position sensed moves reports moving each = absurd (false≢true moving)
reaches_driven (Driving side since) now until position sensed moves reports moving each =
    reaches_in_time side since now until position sensed moves reports (nat_le (drive_end since) now) each
reaches_driven Arrived now until position sensed moves reports moving each = absurd (false≢true moving)
reaches_driven TimedOut now until position sensed moves reports moving each = absurd (false≢true moving)

reaches_same : (progress : Progress) (now : ℕ) (position sensed : Position) (moves : List Side) (reports : List Report)
    → position ≡ sensed → Reported progress sensed moves reports
    → Reported (reached position (limited now progress)) position moves reports
reaches_same progress now position sensed moves reports same each =
    let P : Position → Type 0 = λ p. Reported (reached p (limited now progress)) p moves reports in
    subst P (sym same) (again (limited now progress) sensed moves reports (limits progress now sensed moves reports each))

senses : (sense : Sense) (now : ℕ) (history : History) → IsMovedByItsDrive (Senses now sense) history.point
    → IsReported history → IsReported (next (Senses now sense) history)
senses (sense.Position position) now history moved each = record {
  reported = elim moved [
    | inl same ↦ reaches_same history.point.progress now position history.point.sensed history.moves history.reports same each.reported
    | inr moving ↦ reaches_driven history.point.progress now history.point.until position history.point.sensed history.moves history.reports moving each.reported
  ];
}
senses (sense.Section place occupancy) now history moved each = each

pays_arrived : (moves : List Side) (sensed : Position) (reports : List Report) → Reported Arrived sensed moves reports
    → AnswerEach moves (own_report (Point (PointPosition sensed)) ∷ reports)
pays_arrived [] sensed reports each = absurd each
pays_arrived (move ∷ moves) sensed reports each =
    (inl (ap (λ (position : Position). own_report (Point (PointPosition position))) each.0), each.1)

pays_late : (moves : List Side) (sensed : Position) (reports : List Report) → Reported TimedOut sensed moves reports
    → AnswerEach moves (own_report (Point Timeout) ∷ reports)
pays_late [] sensed reports each = absurd each
pays_late (move ∷ moves) sensed reports each = (inr refl, each)

pays : (progress : Progress) (sensed : Position) (until : ℕ) (moves : List Side) (reports : List Report)
    → Reported progress sensed moves reports → IsReported (next Pays (of progress sensed until moves reports))
pays Answered sensed until moves reports each = record { reported = each }
pays (Driving side since) sensed until moves reports each = record { reported = each }
pays Arrived sensed until moves reports each = record { reported = pays_arrived moves sensed reports each }
pays TimedOut sensed until moves reports each = record { reported = pays_late moves sensed reports each }

pub call_answers : (call : ObjectCall) (history : History) → IsMovedByItsDrive call history.point → IsReported history → IsReported (next call history)
call_answers (Takes now telegram) history moved each =
    takes history.point.progress now telegram history.point.sensed history.point.until history.moves history.reports each.reported
call_answers (Ticks now) history moved each =
    record { reported = limits history.point.progress now history.point.sensed history.moves history.reports each.reported }
call_answers (Senses now sense) history moved each = senses sense now history moved each
call_answers (Keeps until) history moved each = record { reported = each.reported }
call_answers Pays history moved each =
    pays history.point.progress history.point.sensed history.point.until history.moves history.reports each.reported
call_answers Loses history moved each = record { reported = tt }

pub answers_commanded : (calls : List ObjectCall) (history : History) → AreMovedByTheDrive calls history → IsReported history → IsReported (told calls history)
answers_commanded [] history moved each = each
answers_commanded (call ∷ calls) history moved each =
    answers_commanded calls (next call history) moved.1 (call_answers call history moved.0 each)
