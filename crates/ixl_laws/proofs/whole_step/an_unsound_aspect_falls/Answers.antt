use Rattle.std.proofs.Common.{ap, sym, ◌∙◌}
use Rattle.std.specs.Prelude.{slice_get}
use Rattle.ixl_state.specs.ixl_spec.State.{IxlState}
use Rattle.ixl_laws.specs.WholeStep.{heard, turns_of_input}
use Rattle.ixl_laws.proofs.UnsoundFalls.{cancelled_falls, unsound_falls}
use Rattle.ixl_laws.proofs.whole_step.an_unsound_aspect_falls.Goals as goal

pub returns-clause-unsound : goal.returns-clause-unsound
returns-clause-unsound c now number input old new row route step there kept unsound given =
    unsound_falls now old.state.sited.table step.turns (turns_of_input input old.state.ixl) (heard now input old) step.last number row there step.are step.follow unsound
    route (ap (λ (ixl : IxlState). slice_get ixl.routes number) (sym step.ixl) ∙ kept) given

pub returns-clause-cancelled : goal.returns-clause-cancelled
returns-clause-cancelled c now number input old new row was route step there kept is cancelled given =
    cancelled_falls now old.state.sited.table step.turns (turns_of_input input old.state.ixl) (heard now input old) step.last number row there step.are step.follow was is cancelled
    route (ap (λ (ixl : IxlState). slice_get ixl.routes number) (sym step.ixl) ∙ kept) given
