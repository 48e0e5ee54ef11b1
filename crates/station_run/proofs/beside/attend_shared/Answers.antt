use Rattle.station_panel.specs.Opened.{page_of}
use Rattle.station_run.proofs.PanelsBeside.{somehow}
use Rattle.station_run.proofs.beside.attend_shared.Goals as goal

pub returns : goal.returns
returns g c = somehow (page_of c.args.asked.now.page) c.args.asked.now.limits c.args.station.engine _ _ _ c.attend-ended.result.ended c.attend-ended.ensures.done
