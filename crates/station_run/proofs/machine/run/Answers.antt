use Rattle.std.proofs.Common.{refl, subst}
use Rattle.station_panel.specs.station_drive.declared.sockets.Sockets.{Sockets}
use Rattle.station_record.specs.replay.World.{played}
use Rattle.station_run.specs.Runs.{RunsSomehow}
use Rattle.station_run.specs.StationRuns.{StationRunView}
use Rattle.station_run.proofs.RunEnds.{can_run, machine_explains, run_explains}
use Rattle.station_run.proofs.machine.run.Goals as goal

pub returns-in-Ok-open-clause-done : goal.returns-in-Ok-open-clause-done
returns-in-Ok-open-clause-done g c = λ zero.
    let ran = c.run_watched.ensures.done zero in (
      ran.0,
      ran.1,
      record {
        first = played c.in-Ok.prepared.station;
        lines = c.in-Ok.prepared.script.items;
        prepared = c.in-Ok.ensures.prepared;
        run = subst (λ (v : StationRunView Sockets). RunsSomehow (played v.engine.station) v.script ran.0 (g.O.Write.contents c.args.out.now) (g.O.Write.contents c.run_watched.new.out)) c.over-station.ensures ran.2;
      },
    )

pub returns-in-Ok-open-clause-explains : goal.returns-in-Ok-open-clause-explains
returns-in-Ok-open-clause-explains g c = λ one.
    let ended = c.run_watched.ensures.told one
    in (ended.0, ((run_explains c.args.asked.now.layout.now c.args.asked.now.script.now ended.0 (can_run c.in-Ok.ensures.prepared) ended.1.0.0, ended.1.0.1), ended.1.1), ended.2)

pub returns-in-Err-open-clause-explains : goal.returns-in-Err-open-clause-explains
returns-in-Err-open-clause-explains g c = λ one.
    let failure = c.in-Err-open.failure
    in (failure, ((machine_explains c.args.asked.now.layout.now c.args.asked.now.script.now failure (can_run c.in-Ok.ensures.prepared) c.in-Err-open.ensures, λ _. refl), c.tell-in-Err-open.ensures.status), c.tell-in-Err-open.ensures.told)
