use Rattle.replay.specs.Outset.{outset_of}
use Rattle.replay.proofs.sim.sim_text.Goals as goal

pub returns-in-Ok-clause-done : goal.returns-in-Ok-clause-done
returns-in-Ok-clause-done g c = λ e.
    let played = c.in-Ok.ensures.done
    in record {
      played = played;
      lies = c.stations_lie_as_lines_say.ensures.said played.site c.args.events.now played.lines played.says;
      safe = c.played_worlds_are_safe.ensures.at played.site (outset_of played.site played.lines) played.told.first.state played.told.begins.first;
    }
