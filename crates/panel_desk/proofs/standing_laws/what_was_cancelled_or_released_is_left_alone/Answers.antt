use Rattle.panel_desk.proofs.LeftAlone.{made_manual, stays_led, untried}
use Rattle.panel_desk.proofs.standing_laws.what_was_cancelled_or_released_is_left_alone.Goals as goal

pub returns-clause-made : goal.returns-clause-made
returns-clause-made c route command orders is = made_manual route command orders is

pub returns-clause-stays : goal.returns-clause-stays
returns-clause-stays c site route old new manual led = stays_led site route old new manual led

pub returns-clause-untried : goal.returns-clause-untried
returns-clause-untried c site lines now old new routes route manual turn has = untried site lines now old new routes route manual turn has
