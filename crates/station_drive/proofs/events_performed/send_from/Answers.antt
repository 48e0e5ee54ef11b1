use Rattle.std.proofs.Common.{ℕ, List, [], ◌∷◌, ◌++◌, sym}
use Rattle.simulator_event.specs.layout.declared.ids.NodeId.{NodeId}
use Rattle.station_drive.proofs.Composed.{sent_more}
use Rattle.station_drive.proofs.Rows.{drop_at, moved}
use Rattle.station_drive.proofs.events_performed.send_from.Goals as goal

pub loop-place-preserved : goal.loop-place-preserved
loop-place-preserved g c =
    let s = g.S.Station in
    let all = s.does.sent (s.state c.args.station.now) in
    let before = c.loop-place.invariant in
    let one : NodeId × List ℕ = (c.in-Some.outgoing.to, c.in-Some.outgoing.bytes.now) in (
      before.0 ++ one ∷ [],
      moved before.0 _ _ one _ (drop_at all c.loop-place.place one (sym c.in-Some.ensures)) before.1,
      sent_more _ _ _ _ before.0 one before.2 c.send.ensures.told,
    )
