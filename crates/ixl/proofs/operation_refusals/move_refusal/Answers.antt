use Rattle.std.proofs.Common.{◌∙◌, ap, sym, not, length}
use Rattle.std.proofs.lemmas.Bool.{ltb-true}
use Rattle.ixl_state.specs.ixl_spec.Commands.{moving_refusal}
use Rattle.ixl_state.specs.ixl_spec.View.{is_holding}
use Rattle.ixl_state.specs.ixl_spec.declared.command.Refusal.TheVariants as refusals
use Rattle.ixl.proofs.Causes.{any_allows, any_refuses, passed_to, thing_missing, thing_there}
use Rattle.ixl.proofs.operation_refusals.move_refusal.Goals as goal

pub returns-then-not-has_thing : goal.returns-then-not-has_thing
returns-then-not-has_thing c = thing_missing _ _ (sym c.has_thing.ensures ∙ c.if-not-has_thing.true)

pub returns-in-Some : goal.returns-in-Some
returns-in-Some c =
    any_refuses (is_holding c.args.now c.args.state.now.ixl) c.args.state.now.ixl.resumed c.in-Some.cause (moving_refusal c.args.state.now.sited.table c.args.state.now.ixl c.args.point c.args.side) c.in-Some.ensures
    ∙ thing_there _ _ (sym c.has_thing.ensures ∙ c.if-not-has_thing.false)

pub moving_refusal-requires : goal.moving_refusal-requires
moving_refusal-requires c = ltb-true c.args.point.0 (length c.args.state.now.sited.table.point_sections) (sym c.has_thing.ensures ∙ c.if-not-has_thing.false)

pub returns-in-None : goal.returns-in-None
returns-in-None c =
    let passed = any_allows (is_holding c.args.now c.args.state.now.ixl) c.args.state.now.ixl.resumed c.in-None.ensures
    in c.moving_refusal.ensures
    ∙ passed_to (is_holding c.args.now c.args.state.now.ixl) (not c.args.state.now.ixl.resumed) refusals.Holding refusals.NotResumed _ passed.0 (ap not passed.1)
    ∙ thing_there _ _ (sym c.has_thing.ensures ∙ c.if-not-has_thing.false)
