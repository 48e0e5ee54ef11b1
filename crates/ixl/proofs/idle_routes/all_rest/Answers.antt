use Rattle.std.proofs.Common.{arith}
use Rattle.ixl.proofs.AtRest.{next_rests}
use Rattle.ixl.proofs.idle_routes.all_rest.Goals as goal

pub loop-number-init : goal.loop-number-init
loop-number-init c number less = absurd (omega (arith, less))

pub loop-number-preserved : goal.loop-number-preserved
loop-number-preserved c = next_rests c.args.state.now c.loop-number.number c.rests.result c.loop-number.invariant c.rests.ensures c.if-not-rests.false
