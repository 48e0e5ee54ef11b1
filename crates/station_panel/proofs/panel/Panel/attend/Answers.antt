use Rattle.std.proofs.Common.{◌∙◌, [], ◌∷◌, ◌++◌, refl, ap, subst}
use Rattle.station_drive.specs.Rounds.{RunSoFar}
use Rattle.station_panel.specs.Turns.{IsLived, IsLivedShort, Moment, at_once, begins, goes_on, in_a_turn}
use Rattle.station_panel.proofs.Readings.{grows_none, grows_on}
use Rattle.station_panel.proofs.Turn.{over, stopped}
use Rattle.station_panel.proofs.panel.Panel.attend.Goals as goal

pub loop-init : goal.loop-init
loop-init g c = ([], grows_none _, begins, refl)

pub returns-in_err-turn-clause-stopped : goal.returns-in_err-turn-clause-stopped
returns-in_err-turn-clause-stopped g c =
    let before = c.loop.invariant in
    let reading = c.read-reading.result in
    let short = subst (λ (m : Moment g.row.S.Denot g.row.N.Denot). IsLivedShort g.S.Station g.N.Datagrams g.S.Pictured reading m c.turn.new.self) c.answer.ensures.kept c.in_err-turn.ensures.stopped in
    stopped c.from_residual.result (record { readings = before.0; last = c.loop.self; turns = before.2; cut = in_a_turn reading c.answer.new.self.desk c.answer.ensures.served short })

pub returns-in-Some-clause-done : goal.returns-in-Some-clause-done
returns-in-Some-clause-done g c =
    let before = c.loop.invariant in
    let reading = c.read-reading.result in
    let lived = subst (λ (m : Moment g.row.S.Denot g.row.N.Denot). IsLived g.S.Station g.N.Datagrams g.S.Pictured c.args.limits.memory reading m c.turn.new.self) c.answer.ensures.kept c.in_ok-turn.ensures.done in
    let first = ap (λ (r : RunSoFar). r.first) lived.run ∙ before.3 in
    record {
      readings = before.0 ++ reading ∷ [];
      read = grows_on _ _ _ before.0 (reading ∷ []) before.1 c.read-reading.ensures.told;
      turns = goes_on before.2 reading (record { served = c.answer.new.self.desk; serves = c.answer.ensures.served; lived = lived });
      ends = (before.0, reading, refl, over c.args.limits.for_ms c.args.self.now.run.first c.turn.new.self.run.first reading c.in-Some.ending first c.in-Some.ensures);
    }

pub returns-then-is_stopped-clause-done : goal.returns-then-is_stopped-clause-done
returns-then-is_stopped-clause-done g c =
    let before = c.loop.invariant in
    let reading = c.read-reading.result in
    let lived = subst (λ (m : Moment g.row.S.Denot g.row.N.Denot). IsLived g.S.Station g.N.Datagrams g.S.Pictured c.args.limits.memory reading m c.turn.new.self) c.answer.ensures.kept c.in_ok-turn.ensures.done in
    record {
      readings = before.0 ++ reading ∷ [];
      read = grows_on _ _ _ before.0 (reading ∷ []) before.1 c.read-reading.ensures.told;
      turns = goes_on before.2 reading (record { served = c.answer.new.self.desk; serves = c.answer.ensures.served; lived = lived });
      ends = (before.0, reading, refl, tt);
    }

pub loop-preserved : goal.loop-preserved
loop-preserved g c =
    let before = c.loop.invariant in
    let reading = c.read-reading.result in
    let lived = subst (λ (m : Moment g.row.S.Denot g.row.N.Denot). IsLived g.S.Station g.N.Datagrams g.S.Pictured c.args.limits.memory reading m c.turn.new.self) c.answer.ensures.kept c.in_ok-turn.ensures.done in (
      before.0 ++ reading ∷ [],
      grows_on _ _ _ before.0 (reading ∷ []) before.1 c.read-reading.ensures.told,
      goes_on before.2 reading (record { served = c.answer.new.self.desk; serves = c.answer.ensures.served; lived = lived }),
      ap (λ (r : RunSoFar). r.first) lived.run ∙ before.3,
    )

pub returns-clause-stopped : goal.returns-clause-stopped
returns-clause-stopped g c =
    let before = c.loop.invariant in
    record { readings = before.0; last = c.loop.self; turns = before.2; cut = at_once refl refl refl }
