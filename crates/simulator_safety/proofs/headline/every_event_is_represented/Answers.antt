use Rattle.simulator_safety.proofs.AllEvents.{KeepingLaws, kept}
use Rattle.simulator_safety.proofs.headline.every_event_is_represented.Goals as goal

pub returns : goal.returns
returns c =
    let laws : KeepingLaws = record {
      controllers = c.controllers_events_are_represented.ensures;
      request = c.steps_of_interlockings_are_represented.ensures.request;
      tick = c.steps_of_interlockings_are_represented.ensures.tick;
      delivery = c.steps_of_interlockings_are_represented.ensures.delivery;
      time = c.time_keeps_representations.ensures;
      restart = c.restarts_of_interlockings_are_represented.ensures;
    }
    in λ site table happening world machine once station is represented none. kept laws site table once station is world machine represented happening none
