use Rattle.ixl_laws.proofs.Answered.{first_answered, known_answered, stays_answered}
use Rattle.ixl_laws.proofs.laws.the_last_report_answers_the_last_move.Goals as goal

pub returns-clause-first : goal.returns-clause-first
returns-clause-first c site table begins place known_point is = first_answered site table begins place known_point is

pub returns-clause-kept : goal.returns-clause-kept
returns-clause-kept c now input old new answer place before after moves told step is also was =
    stays_answered now input old new answer place before after moves told
    (λ bytes a. (c.initialisations_go_out_in_order.ensures.receipt now bytes a, c.step_hears_what_was_taken.ensures now bytes a))
    (c.initialisations_go_out_in_order.ensures.command now) (c.initialisations_go_out_in_order.ensures.tick now) step is also was

pub returns-clause-known : goal.returns-clause-known
returns-clause-known c ixl place side known_point moves told is known answered = known_answered ixl place side known_point moves told is known answered
