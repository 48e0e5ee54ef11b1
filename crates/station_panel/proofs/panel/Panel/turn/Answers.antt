use Rattle.std.proofs.Common.{ap, sym, subst}
use Rattle.station_panel.specs.Turns.{IsLived, Moment, after_it, before_it, within_it}
use Rattle.station_panel.proofs.Turn.{lived, part_of, round_of, round_shown, stopped}
use Rattle.station_panel.proofs.panel.Panel.turn.Goals as goal

pub returns-in_err-events-clause-stopped : goal.returns-in_err-events-clause-stopped
returns-in_err-events-clause-stopped g c =
    let failed = c.in_err-events.ensures.failed in
    stopped c.from_residual.result (before_it (ap (λ m. m.station) failed) (ap (λ m. m.net) failed) (ap (λ m. m.text) failed))

pub returns-in_err-live-clause-stopped : goal.returns-in_err-live-clause-stopped
returns-in_err-live-clause-stopped g c =
    let events = c.in_ok-events.events.items in
    stopped c.from_residual-in_err-live.result
    (within_it events c.want.new.self c.in_ok-events.ensures.wanted (part_of g.S.Station g.N.Datagrams c.args.reading _ _ c.deref.result.now events c.deref.ensures.value c.in_err-live.ensures.stopped))

pub returns-in_err-show-clause-stopped : goal.returns-in_err-show-clause-stopped
returns-in_err-show-clause-stopped g c =
    let events = c.in_ok-events.events.items in
    let round = round_of g.S.Station g.N.Datagrams c.args.reading _ _ c.deref.result.now events c.deref.ensures.value c.in_ok-live.ensures.done in
    stopped c.from_residual-in_err-show.result
    (after_it events c.want.new.self c.in_ok-events.ensures.wanted (round_shown g.S.Station g.N.Datagrams c.args.reading _ _ _ _ _ c.show.ensures.kept round))

pub returns-clause-done : goal.returns-clause-done
returns-clause-done g c =
    let old = c.args.self.now in
    let events = c.in_ok-events.events.items in
    let live = c.in_ok-live.ensures in
    let round = round_of g.S.Station g.N.Datagrams c.args.reading c.want.new.self c.live.new.self c.deref.result.now events c.deref.ensures.value live.done in
    let shown = c.in_ok-show.ensures.shown in
    subst (λ (m : Moment g.row.S.Denot g.row.N.Denot). IsLived g.S.Station g.N.Datagrams g.S.Pictured c.args.limit c.args.reading old m) (sym c.show.ensures.kept)
    (lived g.S.Station g.N.Datagrams g.S.Pictured c.args.limit c.args.reading old c.want.new.self c.live.new.self events c.show.new.self.desk shown.0 shown.1 shown.2 c.in_ok-events.ensures.wanted round
    live.run (ap (λ m. m.desk) live.kept) (ap (λ m. m.faults) live.kept) (ap (λ m. m.orders) live.kept) shown.3)
