use Rattle.std.proofs.Common.{refl}
use Rattle.ixl_state.specs.ixl_spec.Rules.{moving}
use Rattle.ixl.proofs.PartsFollow.{goes_nowhere, one_goes}
use Rattle.ixl.proofs.point_moves.move_points_of_routes.Goals as goal

pub loop-number-init : goal.loop-number-init
loop-number-init c = goes_nowhere c.args.now _ _ _ _ c.requires.clock (λ part same. refl)

pub loop-number-preserved : goal.loop-number-preserved
loop-number-preserved c = one_goes c.args.now 64 (moving c.args.now) c.loop-number.number _ _ c.loop-number.state c.loop-number.outbox _ _ c.loop-number.invariant c.move_points.ensures
