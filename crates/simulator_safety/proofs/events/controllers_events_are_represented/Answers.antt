use Rattle.simulator_safety.proofs.AtNodes.{EventLaws, event_leads}
use Rattle.simulator_safety.proofs.events.controllers_events_are_represented.Goals as goal

pub returns : goal.returns
returns c =
    let laws : EventLaws = record {
      none = c.lists_of_moves_compose.ensures.none;
      tick = record {
        signal = c.events_at_signals_are_represented.ensures.tick;
        point = c.events_at_points_are_represented.ensures.tick;
        detector = c.events_at_detectors_are_represented.ensures.tick;
      };
      delivery = λ bytes. record {
        signal = λ site table node place world machine. c.events_at_signals_are_represented.ensures.delivery site table node bytes place world machine;
        point = λ site table node place world machine. c.events_at_points_are_represented.ensures.delivery site table node bytes place world machine;
        detector = λ site table node place world machine. c.events_at_detectors_are_represented.ensures.delivery site table node bytes place world machine;
      };
      restart = λ clock first. record {
        signal = λ site table node place world machine. c.events_at_signals_are_represented.ensures.restart site table node clock first place world machine;
        point = λ site table node place world machine. c.events_at_points_are_represented.ensures.restart site table node clock first place world machine;
        detector = λ site table node place world machine. c.events_at_detectors_are_represented.ensures.restart site table node clock first place world machine;
      };
      contact = λ section occupancy site table world machine. c.events_at_detectors_are_represented.ensures.contact site table section occupancy world machine;
      reach = λ point position site table world machine. c.events_at_points_are_represented.ensures.reach site table point position world machine;
      loss = λ bytes site table world machine. c.losses_are_represented.ensures site table bytes world machine;
    }
    in λ site table happening world machine station once is none represented. event_leads laws happening is site table world machine station once none represented
