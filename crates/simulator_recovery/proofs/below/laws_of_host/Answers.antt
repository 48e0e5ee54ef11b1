use Rattle.simulator_recovery.proofs.below.laws_of_host.Goals as goal

pub returns : goal.returns
returns g c = record {
  given = c.step_takes_and_gives.ensures.given;
  names = c.steps_keep_a_host.ensures.names;
  taken = c.step_takes_and_gives.ensures.taken;
  gives_none = c.step_takes_and_gives.ensures.gives_none;
  takes_none = c.step_takes_and_gives.ensures.takes_none;
  first = c.step_is_calls.ensures.first;
  link = c.step_takes_and_gives.ensures.link;
  outside = c.step_takes_and_gives.ensures.outside;
}
