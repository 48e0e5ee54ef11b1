use Rattle.line_telegram.proofs.Greetings.{item_taken, version_agreed, begun_agreed}
use Rattle.line_telegram.proofs.laws.items_come_after_agreement.Goals as goal

pub returns-clause-item : goal.returns-clause-item
returns-clause-item c = item_taken

pub returns-clause-agreed : goal.returns-clause-agreed
returns-clause-agreed c = version_agreed

pub returns-clause-begins : goal.returns-clause-begins
returns-clause-begins c = begun_agreed
