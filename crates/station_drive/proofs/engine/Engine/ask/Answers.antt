use Rattle.station_drive.specs.Told.{Failed}
use Rattle.station_drive.proofs.Composed.{heard_none, heard_some, performs_asking}
use Rattle.station_drive.proofs.engine.Engine.ask.Goals as goal
use Rattle.station_drive.proofs.engine.Engine.ask.Goals.{in-Ok, in-Err}

pub returns-clause-heard : goal.returns-clause-heard
returns-clause-heard g c =
    elim c.match-receive.branch [
      | in-Ok w ↦ rw (w.result-is, ← c.self.view_is) (heard_some g.S.Station.does g.N.Datagrams.carries (λ bytes. bytes.items) c.args.node w.in-Ok.heard _ (g.N.Datagrams.told c.receive.new.self) w.in-Ok.ensures.told)
      | in-Err w ↦ rw w.result-is tt
    ]

pub returns-clause-silence : goal.returns-clause-silence
returns-clause-silence g c =
    elim c.match-receive.branch [
      | in-Ok w ↦ rw (w.result-is, ← c.self.view_is) (heard_none g.S.Station.does g.N.Datagrams.carries (λ bytes. bytes.items) c.args.node w.in-Ok.heard _ (g.N.Datagrams.told c.receive.new.self) w.in-Ok.ensures.told)
      | in-Err w ↦ rw (w.result-is, ← c.self.view_is) (Failed, tt, performs_asking _ (g.N.Datagrams.told c.receive.new.self) w.in-Err.ensures.told)
    ]
