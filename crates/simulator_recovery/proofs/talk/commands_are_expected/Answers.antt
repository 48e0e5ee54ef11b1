use Rattle.simulator_recovery.proofs.Lemmas.Talk.ConversationFits.{aspect_expected, move_expected}
use Rattle.simulator_recovery.proofs.talk.commands_are_expected.Goals as goal

pub returns-clause-aspects : goal.returns-clause-aspects
returns-clause-aspects c = aspect_expected c.laws_below.ensures.written_telegram_is_read

pub returns-clause-moves : goal.returns-clause-moves
returns-clause-moves c = move_expected c.laws_below.ensures.written_telegram_is_read
