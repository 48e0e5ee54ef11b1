use Rattle.std.proofs.Common.{ap, subst}
use Rattle.station_panel.specs.DisturbedNetwork.{DisturbedView, Released, disturbance, heeded}
use Rattle.station_panel.proofs.panel.begin_round.Goals as goal

pub returns-clause-net : goal.returns-clause-net
returns-clause-net g c =
    let comes : DisturbedView g.row.N.Denot → DisturbedView g.row.N.Denot → Type 0 = Released g.N.Datagrams.told g.N.Datagrams.carries in
    let after : DisturbedView g.row.N.Denot = disturbance c.release.new.self in
    subst (λ (d : DisturbedView g.row.N.Denot). comes (heeded c.args.faults.now c.args.reading d) after) (ap (λ e. disturbance e.net) c.engine.view_is)
    (subst (λ (d : DisturbedView g.row.N.Denot). comes d after) c.heed.ensures c.release.ensures)
