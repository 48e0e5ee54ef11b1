use Rattle.std.proofs.Common.{refl}
use Rattle.ixl_state.specs.ixl_spec.Rules.{ending_authority}
use Rattle.ixl.proofs.PartsFollow.{changes_nowhere, one_changes}
use Rattle.ixl.proofs.authority_end.end_authorities.Goals as goal

pub loop-number-init : goal.loop-number-init
loop-number-init c = changes_nowhere _ _ (λ part same. refl)

pub loop-number-preserved : goal.loop-number-preserved
loop-number-preserved c = one_changes (ending_authority c.args.now) c.loop-number.number _ c.loop-number.state _ c.loop-number.invariant c.end_authority.ensures
