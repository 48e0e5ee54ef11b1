use Rattle.ixl_laws.proofs.Telegrams.{aspect_is_sent, move_is_sent}
use Rattle.ixl_laws.proofs.whole_step.aspects_and_moves_are_telegrams.Goals as goal

pub returns-clause-aspect : goal.returns-clause-aspect
returns-clause-aspect c now signal aspect part known_signal there = aspect_is_sent now (c.initialisations_go_out_in_order.ensures.command now) signal aspect part known_signal there

pub returns-clause-moves : goal.returns-clause-moves
returns-clause-moves c now point side part known_point there = move_is_sent now (c.initialisations_go_out_in_order.ensures.command now) point side part known_point there
