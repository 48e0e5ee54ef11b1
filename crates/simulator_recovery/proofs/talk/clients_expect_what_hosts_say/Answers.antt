use Rattle.simulator_recovery.proofs.Lemmas.Talk.ConversationFits.{answer_expected, answer_to_move_expected, change_expected, completed_expected, start_expected, status_expected}
use Rattle.simulator_recovery.proofs.talk.clients_expect_what_hosts_say.Goals as goal

pub returns-clause-answer : goal.returns-clause-answer
returns-clause-answer g c = λ peer host is matched. answer_expected c.laws_below.ensures.written_telegram_is_read _ peer is host matched

pub returns-clause-start : goal.returns-clause-start
returns-clause-start g c = λ peer host is matched. start_expected c.laws_below.ensures.written_telegram_is_read _ peer is host matched

pub returns-clause-status : goal.returns-clause-status
returns-clause-status g c = λ peer host report left is matched. status_expected c.laws_below.ensures.written_telegram_is_read _ peer is host matched report left

pub returns-clause-completed : goal.returns-clause-completed
returns-clause-completed g c = λ peer host is matched. completed_expected c.laws_below.ensures.written_telegram_is_read _ peer is host matched

pub returns-clause-change : goal.returns-clause-change
returns-clause-change g c = λ peer host report place is matched. change_expected c.laws_below.ensures.written_telegram_is_read _ peer is host matched report place

pub returns-clause-answers_moves : goal.returns-clause-answers_moves
returns-clause-answers_moves g c = λ peer host report place is matched. answer_to_move_expected c.laws_below.ensures.written_telegram_is_read _ peer is host matched report place
