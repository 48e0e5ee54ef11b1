use Rattle.std.proofs.Common.{sym, subst}
use Rattle.draw_desk.specs.Answers.{Tells, outcome_status, outcome_text}
use Rattle.draw_desk.specs.declared.saving.Outcome.{Outcome}
use Rattle.draw_desk.proofs.saving.SaveAnswers.told.Goals as goal

pub returns-in-NotRead : goal.returns-in-NotRead
returns-in-NotRead c = λ number not_read changed not_written saved.
    subst (λ (o : Outcome). Tells (outcome_status o) (outcome_text number o) c.args.self.not_read) (sym c.in-NotRead.is) not_read

pub returns-in-Changed : goal.returns-in-Changed
returns-in-Changed c = λ number not_read changed not_written saved.
    subst (λ (o : Outcome). Tells (outcome_status o) (outcome_text number o) c.args.self.changed) (sym c.in-Changed.is) changed

pub returns-in-NotWritten : goal.returns-in-NotWritten
returns-in-NotWritten c = λ number not_read changed not_written saved.
    subst (λ (o : Outcome). Tells (outcome_status o) (outcome_text number o) c.args.self.not_written) (sym c.in-NotWritten.is) not_written

pub returns-in-Saved : goal.returns-in-Saved
returns-in-Saved c = λ number not_read changed not_written saved.
    subst (λ (o : Outcome). Tells (outcome_status o) (outcome_text number o) c.args.self.saved) (sym c.in-Saved.is) saved
