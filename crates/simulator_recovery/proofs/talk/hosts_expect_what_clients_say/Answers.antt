use Rattle.simulator_recovery.proofs.Lemmas.Talk.ConversationFits.{check_expected, request_expected}
use Rattle.simulator_recovery.proofs.talk.hosts_expect_what_clients_say.Goals as goal

pub returns-clause-check : goal.returns-clause-check
returns-clause-check g c = λ now peer host is matched at. check_expected c.laws_below.ensures.written_telegram_is_read _ now peer is host matched at

pub returns-clause-request : goal.returns-clause-request
returns-clause-request g c = λ now peer host is matched at. request_expected c.laws_below.ensures.written_telegram_is_read _ now peer is host matched at
