use Rattle.std.proofs.Common.{subst, sym, inr}
use Rattle.std.specs.List.{All}
use Rattle.ixl_state.specs.ixl_spec.OperationCauses.{IsNamed}
use Rattle.ixl_state.specs.ixl_spec.State.{IxlState}
use Rattle.ixl_state.specs.ixl_spec.Table.{Table}
use Rattle.ixl_laws.proofs.ClosingsFirst.{NoneSet, all_accepted, all_closed}
use Rattle.ixl_laws.proofs.InputUses.{first_unset}
use Rattle.ixl_laws.proofs.operations.closings_that_are_given_first_are_closed.Goals as goal

pub returns-clause-accepted : goal.returns-clause-accepted
returns-clause-accepted c site table begins names first others chain is_new is_table are all =
    all_accepted (λ now table ixl named may. (c.close_is_accepted_where_nothing_is_used.ensures.closed now table ixl named).1 may)
    (λ closed named thing is. (c.a_command_changes_what_it_names_alone.ensures.closed closed named thing).1 is)
    names first others chain (subst NoneSet (sym is_new) (first_unset site table begins)) are
    (subst (λ (t : Table). All (IsNamed t first.old.state.ixl) names) (sym is_table) (subst (λ (ixl : IxlState). All (IsNamed table ixl) names) (sym is_new) all))

pub returns-clause-closed : goal.returns-clause-closed
returns-clause-closed c site table begins names first others named thing chain is_new is_table are all has said =
    all_closed (λ now table ixl named may. (c.close_is_accepted_where_nothing_is_used.ensures.closed now table ixl named).1 may)
    (λ closed named thing is. (c.a_command_changes_what_it_names_alone.ensures.closed closed named thing).1 is)
    names first others named thing chain are
    (all_accepted (λ now table ixl named may. (c.close_is_accepted_where_nothing_is_used.ensures.closed now table ixl named).1 may)
    (λ closed named thing is. (c.a_command_changes_what_it_names_alone.ensures.closed closed named thing).1 is)
    names first others chain (subst NoneSet (sym is_new) (first_unset site table begins)) are
    (subst (λ (t : Table). All (IsNamed t first.old.state.ixl) names) (sym is_table) (subst (λ (ixl : IxlState). All (IsNamed table ixl) names) (sym is_new) all)))
    (inr (has, said))
