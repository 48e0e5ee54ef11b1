use Rattle.line_telegram.proofs.Greetings.{same_version, other_version}
use Rattle.line_telegram.proofs.laws.ends_of_one_version_agree.Goals as goal

pub returns-clause-second : goal.returns-clause-second
returns-clause-second c = λ version. rw (same_version version)

pub returns-clause-answer : goal.returns-clause-answer
returns-clause-answer c = λ version. rw (same_version version)

pub returns-clause-first : goal.returns-clause-first
returns-clause-first c = λ version. rw (same_version version)

pub returns-clause-other : goal.returns-clause-other
returns-clause-other c = λ own other differs. rw (other_version own other differs)
