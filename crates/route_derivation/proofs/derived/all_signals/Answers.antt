use Rattle.route_derivation.proofs.RouteWays.{signals-more}
use Rattle.route_derivation.proofs.derived.all_signals.Goals as goal

pub loop-place-preserved : goal.loop-place-preserved
loop-place-preserved c = signals-more c.loop-place.place c.loop-place.signals.items c.push.new.self.items c.loop-place.invariant c.in_ok-push.ensures.items
