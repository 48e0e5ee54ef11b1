use Rattle.ixl_laws.proofs.CancelAccepted.{resume_accepted, resume_refused}
use Rattle.ixl_laws.proofs.laws.resumes_are_accepted_behind_the_hold.Goals as goal

pub returns-clause-accepted : goal.returns-clause-accepted
returns-clause-accepted c now old new answer stepped = resume_accepted now old new answer stepped

pub returns-clause-refused : goal.returns-clause-refused
returns-clause-refused c now old new answer cause stepped refuses = resume_refused now old new answer cause stepped refuses
