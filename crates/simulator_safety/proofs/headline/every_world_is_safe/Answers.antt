use Rattle.simulator_link_laws.specs.simulator_spec.Run.{after_all}
use Rattle.simulator_link_laws.specs.simulator_spec.First.{world_at}
use Rattle.simulator_safety.proofs.headline.every_world_is_safe.Goals as goal

pub returns : goal.returns
returns c = record {
  seen = λ site table outset events once station is lies can.
      let reached = c.every_world_is_reached_by_moves.ensures.first site table outset events once station is lies can
      in (reached.machine, reached.represented);
  safe = λ site table outset events snapshot once station is lies can of.
      let reached = c.every_world_is_reached_by_moves.ensures.first site table outset events once station is lies can
      in c.represented_worlds_are_safe.ensures site table (after_all site table events (world_at site table outset)) reached.machine snapshot once station is reached.represented of;
}
