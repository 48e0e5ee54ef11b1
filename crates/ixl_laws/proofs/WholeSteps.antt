-- Each step is a whole step.
use Rattle.std.proofs.Common.{ℕ, ◌++◌, length, refl, ap, sym, ◌∙◌, subst}
use Rattle.std.proofs.lemmas.List.{length-map}
use Rattle.ixl_state.specs.First.{Beginning, key_of, new_ixl, new_route_of}
use Rattle.ixl_state.specs.layout.Entries.{Site}
use Rattle.ixl_state.specs.ixl_spec.State.{RouteState}
use Rattle.ixl_state.specs.ixl_spec.Step.{Input, Reply, all_clocked, stepped}
use Rattle.ixl_state.specs.ixl_spec.StepSoFar.{begun_with, empty_outbox}
use Rattle.ixl_state.specs.ixl_spec.Table.{SitedTable, Table}
use Rattle.ixl.specs.Interlocking.{HasStepped, InterlockingState, step_of}
use Rattle.ixl_laws.specs.WholeStep.{Fits, WholeStep, heard, turns_of_input, turns_of_rules}
use Rattle.ixl_laws.proofs.Clients.{mapped}
use Rattle.ixl_laws.proofs.PickedByTest.{some_same}
use Rattle.ixl_laws.proofs.Turns.{Taken}
use Rattle.ixl_laws.proofs.WholeFits.{passage_of}
use Rattle.ixl_laws.proofs.WholeRules.{RuleLaws}
use Rattle.ixl_laws.proofs.WholeTicks.{step_walks}

pub fits_at_first : (site : Site) (table : Table) (begins : Beginning) → Fits table (new_ixl site table begins)
unfolding new_ixl
fits_at_first site table begins = record {
  each = length-map table.rows new_route_of;
  passages = λ number row route is.
      ap (λ (r : RouteState). r.passage.sections) (some_same (sym is.1 ∙ mapped new_route_of number table.rows row is.0)) ∙ passage_of (length row.sections);
}

module _ (now : ℕ) (laws : (table : Table) → RuleLaws now table) (input : Input) (old new : InterlockingState) (answer : Reply) (step : HasStepped now input old new answer) (fits : Fits old.state.sited.table old.state.ixl) where
  taken : Taken now old.state.sited.table (turns_of_rules old.state.sited.table.rows ++ turns_of_input input old.state.ixl)
      (heard now input old) (step_of now input old.state)
  unfolding stepped
  taken = step_walks now old.state.sited.table (laws old.state.sited.table) (key_of old.state.sited.site) input old.state.ixl
      (begun_with (all_clocked now old.state.ixl) empty_outbox) refl fits

  pub is_whole : WholeStep now input old new
  is_whole = record {
    turns = taken.taken;
    are = taken.are;
    last = step_of now input old.state;
    follow = taken.follow;
    ixl = step.ixl;
    outbox = step.outbox;
    calls = λ node. refl;
  }

  pub still_fits : Fits new.state.sited.table new.state.ixl
  still_fits = subst (λ (s : SitedTable). Fits s.table new.state.ixl) (sym step.sited) (subst (Fits old.state.sited.table) (sym step.ixl) taken.fits)
