use Rattle.std.proofs.Common.{Bool, subst, sym}
use Rattle.std.specs.Prelude.{◌↔◌, IsTrue}
use Rattle.station_record.specs.replay.ixl_spec.Due.{HoldsSection}
use Rattle.station_record.specs.replay.simulator.ixl_state.State.{HasRoute, StateView}
use Rattle.station_run.proofs.Seen.{locked_there}
use Rattle.station_run.proofs.pictured_world.locks.Goals as goal

pub returns : goal.returns
returns c =
    let world = c.args.world.now
    in let section = c.args.section
    in let state : StateView = record { sited = world.sited; ixl = world.run.interlocking.ixl }
    in let has : HasRoute state c.args.number = subst (λ (s : StateView). HasRoute s c.args.number) c.interlocking.ensures c.keeps_route.ensures.kept
    in locked_there state c.args.number section c.contains.result has
    (λ row kept is. subst (λ (b : Bool). IsTrue b ↔ HoldsSection row kept.phase section) (sym c.contains.ensures) (c.locked.ensures row kept is section))
