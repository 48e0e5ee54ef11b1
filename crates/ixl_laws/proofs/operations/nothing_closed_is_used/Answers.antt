use Rattle.ixl_laws.proofs.InputUses.{first_unused, step_unused}
use Rattle.ixl_laws.proofs.operations.nothing_closed_is_used.Goals as goal

pub returns-clause-first : goal.returns-clause-first
returns-clause-first c = first_unused

pub returns-clause-kept : goal.returns-clause-kept
returns-clause-kept c now input old new answer step unused =
    step_unused (λ now table ixl route none. (c.request_is_accepted_where_admissible.ensures.accepted now table ixl route).0 none)
    (λ now table ixl named none. (c.close_is_accepted_where_nothing_is_used.ensures.closed now table ixl named).0 none)
    (λ closed named thing is. (c.a_command_changes_what_it_names_alone.ensures.closed closed named thing).0 is)
    (λ closed named thing is. ((c.a_command_changes_what_it_names_alone.ensures.opened closed named thing).0 is).1)
    now input old new answer step unused
