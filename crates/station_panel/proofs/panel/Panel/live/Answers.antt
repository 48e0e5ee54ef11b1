use Rattle.std.proofs.Common.{◌∙◌, ap, length, sym}
use Rattle.station_panel.proofs.Turn.{drives_kept, err_met, ok_met, part_made, round_made}
use Rattle.station_panel.proofs.panel.Panel.live.Goals as goal

pub invariant_of-self : goal.invariant_of-self
invariant_of-self g c =
    let round = c.round.ensures in
    drives_kept g.S.Station c.round.result c.args.reading (g.S.Station.state c.round.new.self.station.station) c.self.inside.course c.round.new.course _ _
    (c.self.invariant ∙ sym (ap (λ station. length (g.S.Station.site station).points) c.begin_round.ensures.station))
    round.course round.unmoved (ok_met c.round.result (λ made. made.performs.same_site) round.done) (err_met c.round.result (λ part. part.stops.same_site) round.stopped)

pub returns-clause-done : goal.returns-clause-done
returns-clause-done g c =
    ok_met c.round.result (round_made g.S.Station g.N.Datagrams (record {
      begun = c.begin_round.ensures.net;
      station_is = c.begin_round.ensures.station;
      text_is = c.begin_round.ensures.text;
      jammed_is = c.deref.ensures.value ∙ ap (λ f. f.jammed) c.faults.view_is;
    }) c.args.events.now c.args.self.now _ c.self.view_is) c.round.ensures.done

pub returns-clause-stopped : goal.returns-clause-stopped
returns-clause-stopped g c =
    err_met c.round.result (part_made g.S.Station g.N.Datagrams (record {
      begun = c.begin_round.ensures.net;
      station_is = c.begin_round.ensures.station;
      text_is = c.begin_round.ensures.text;
      jammed_is = c.deref.ensures.value ∙ ap (λ f. f.jammed) c.faults.view_is;
    }) c.args.events.now c.args.self.now _ c.self.view_is) c.round.ensures.stopped
