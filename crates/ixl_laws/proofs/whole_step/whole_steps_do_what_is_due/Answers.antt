use Rattle.std.specs.Prelude.{ℕ}
use Rattle.ixl_state.specs.ixl_spec.Table.{Table}
use Rattle.ixl_laws.proofs.WholeRules.{RuleLaws}
use Rattle.ixl_laws.proofs.WholeSteps.{fits_at_first, is_whole, still_fits}
use Rattle.ixl_laws.proofs.whole_step.whole_steps_do_what_is_due.Goals as goal

laws : (c : goal.After-proceed_is_given_where_due) (now : ℕ) (table : Table) → RuleLaws now table
laws c now table = record {
  stop = c.stop_is_given_where_due.ensures now table;
  ends = c.authority_ends_at_known_stop.ensures now table;
  section = c.section_is_freed_where_passage_lets_it_go.ensures table;
  nothing_more = c.passage_frees_all_that_it_may.ensures table;
  cancel = c.route_is_freed_where_cancel_lets_it_go.ensures now table;
  move = c.move_is_given_where_due.ensures now table;
  proceed = c.proceed_is_given_where_due.ensures now table;
}

pub returns-clause-whole : goal.returns-clause-whole
returns-clause-whole c now input old new answer step fits = is_whole now (laws c now) input old new answer step fits

pub returns-clause-first : goal.returns-clause-first
returns-clause-first c site table begins = fits_at_first site table begins

pub returns-clause-kept : goal.returns-clause-kept
returns-clause-kept c now input old new answer step fits = still_fits now (laws c now) input old new answer step fits
