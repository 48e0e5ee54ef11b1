use Rattle.std.proofs.Common.{◌∷◌, ◌++◌, [], ap, refl, subst, ◌∙◌, arith}
use Rattle.node_drive.specs.Calls.{Reads, Rests}
use Rattle.panel_desk.specs.node_lines.layout.Entries.{Site}
use Rattle.node_panel.specs.Turns.{IsLived, Moment, begins, goes_on}
use Rattle.node_panel.proofs.CallsOn.{calls_none, calls_on, latest_rises, reading_is}
use Rattle.node_panel.proofs.attendance.attend_node.Goals as goal

pub loop-init : goal.loop-init
loop-init g c = ([], calls_none _, begins, refl)

pub returns-then-reading-until-clause-turns : goal.returns-then-reading-until-clause-turns
returns-then-reading-until-clause-turns g c =
    let before = c.loop.invariant in
    let turn = c.in_ok-turn.ensures.lived in
    let reading = c.read_clock-reading.result in
    let served : Moment = record { heard = c.loop.room.heard; orders = c.loop.room.orders; desk = c.serve.new.service } in
    let new : Moment = record { heard = c.turn.new.room.heard; orders = c.turn.new.room.orders; desk = c.turn.new.room.desk } in (
      before.0 ++ Rests ∷ Reads reading ∷ turn.0,
      calls_on before.1 (calls_on c.rest.ensures (calls_on c.read_clock-reading.ensures turn.1)),
      goes_on before.2 (record {
        reading = reading;
        served = c.serve.new.service;
        serves = c.serve.ensures;
        behind = turn.0;
        are = refl;
        lived = subst (λ (p : Site). IsLived p reading turn.0 served new) (ap (λ t. t.now) before.3) turn.2;
      }),
    )

pub returns-then-reading-until-clause-over : goal.returns-then-reading-until-clause-over
returns-then-reading-until-clause-over g c =
    let read = reading_is c.read_clock-reading.ensures in
    let lived = latest_rises c.in_ok-turn.ensures.lived.1 in
    let late = c.if-reading-until.true in
    omega (arith, read, lived, late)

pub loop-preserved : goal.loop-preserved
loop-preserved g c =
    let before = c.loop.invariant in
    let turn = c.in_ok-turn.ensures.lived in
    let reading = c.read_clock-reading.result in
    let served : Moment = record { heard = c.loop.room.heard; orders = c.loop.room.orders; desk = c.serve.new.service } in
    let new : Moment = record { heard = c.turn.new.room.heard; orders = c.turn.new.room.orders; desk = c.turn.new.room.desk } in (
      before.0 ++ Rests ∷ Reads reading ∷ turn.0,
      calls_on before.1 (calls_on c.rest.ensures (calls_on c.read_clock-reading.ensures turn.1)),
      goes_on before.2 (record {
        reading = reading;
        served = c.serve.new.service;
        serves = c.serve.ensures;
        behind = turn.0;
        are = refl;
        lived = subst (λ (p : Site). IsLived p reading turn.0 served new) (ap (λ t. t.now) before.3) turn.2;
      }),
      c.turn.ensures.table ∙ before.3,
    )
