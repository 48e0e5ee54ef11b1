use Rattle.std.proofs.Common.{Bool, refl, subst}
use Rattle.station_panel.specs.DisturbedNetwork.{disturbance}
use Rattle.station_panel.specs.Inside.{Keeps, Loses}
use Rattle.station_panel.proofs.DisturbedCalls.{lost, sent, waits}
use Rattle.station_panel.proofs.disturbed.DisturbedDatagrams.send.Goals as goal

pub returns-then-loses-clause-told : goal.returns-then-loses-clause-told
returns-then-loses-clause-told g c =
    let d = disturbance c.args.self.now in
    let mid = disturbance c.loses.new.self in
    lost g.N.Datagrams.told g.N.Datagrams.carries _ _ _ d mid c.args.to c.args.bytes.now (subst (λ (b : Bool). Loses d c.args.to c.args.bytes.now b mid) c.if-loses.true c.loses.ensures.lost)

pub returns-then-keeps-clause-told : goal.returns-then-keeps-clause-told
returns-then-keeps-clause-told g c =
    let d = disturbance c.args.self.now in
    let mid = disturbance c.loses.new.self in
    waits g.N.Datagrams.told g.N.Datagrams.carries _ _ d mid _ c.args.to c.args.bytes.now (subst (λ (b : Bool). Loses d c.args.to c.args.bytes.now b mid) c.if-loses.false c.loses.ensures.lost)
    (subst (λ (b : Bool). Keeps mid c.args.to c.args.bytes.now b (disturbance c.keeps.new.self)) c.if-keeps.true c.keeps.ensures.kept)

pub returns-clause-told : goal.returns-clause-told
returns-clause-told g c =
    let d = disturbance c.args.self.now in
    let mid = disturbance c.loses.new.self in
    sent g.N.Datagrams.told g.N.Datagrams.carries _ _ d mid (disturbance c.keeps.new.self) _ c.args.to c.args.bytes.now (subst (λ (b : Bool). Loses d c.args.to c.args.bytes.now b mid) c.if-loses.false c.loses.ensures.lost)
    (subst (λ (b : Bool). Keeps mid c.args.to c.args.bytes.now b (disturbance c.keeps.new.self)) c.if-keeps.false c.keeps.ensures.kept)
    (_, c.send.ensures.told, refl)
