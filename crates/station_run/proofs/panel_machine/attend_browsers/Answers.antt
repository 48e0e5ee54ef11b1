use Rattle.station_run.proofs.PanelWorlds.{holds_of_good}
use Rattle.station_run.proofs.panel_machine.attend_browsers.Goals as goal

pub returns-in-Ok-ended-clause-done : goal.returns-in-Ok-ended-clause-done
returns-in-Ok-ended-clause-done g c = λ zero. record {
  net = c.args.station.engine.net;
  text_old = c.args.station.engine.text;
  text_new = _;
  readings_old = _;
  readings_new = _;
  is = holds_of_good c.attend-ended.result.ended c.in-Ok-ended.field-0 c.in-Ok-ended.is c.attend-ended.ensures.done;
}
