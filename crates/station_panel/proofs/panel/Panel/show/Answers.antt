use Rattle.std.proofs.Common.{◌∙◌, ◌++◌, ap, subst}
use Rattle.panel_desk.specs.Answers.{DeskView}
use Rattle.panel_desk.specs.Boards.{Notes, shown_anew}
use Rattle.station_panel.specs.Shown.{own_lines}
use Rattle.station_panel.specs.Turns.{Moment, with_numbers}
use Rattle.station_panel.proofs.Turn.{ok_met}
use Rattle.station_panel.proofs.panel.Panel.show.Goals as goal

pub returns-clause-shown : goal.returns-clause-shown
returns-clause-shown g c =
    let bytes = c.count.new.self.bytes in
    let counts = c.count_auxiliaries-self-inside.result in
    let numbers = c.in_ok-numbers.numbers in
    let site = g.S.Station.site in
    let lines = g.S.Pictured.lines in
    let old = c.self.inside in
    let new = c.note_turn.new.desk in
    ok_met c.note_turn.result (λ noted. (
      bytes,
      numbers,
      counts,
      subst (λ (m : Moment g.row.S.Denot g.row.N.Denot). Notes (shown_anew (site m.station) (lines m.station ++ own_lines m.faults m.orders counts bytes c.args.limit) (with_numbers numbers m.desk)) new) c.self.view_is
          (subst (λ (station : g.row.S.Denot). Notes (shown_anew (site station) (lines station ++ own_lines old.faults old.orders counts bytes c.args.limit) (with_numbers numbers old.desk)) new) (ap (λ e. e.station.station) c.engine.view_is)
          (subst (λ (desk : DeskView). Notes desk new) (c.tell_numbers.ensures ∙ ap (with_numbers numbers) c.in_ok-ready.ensures) noted)),
    )) c.note_turn.ensures
