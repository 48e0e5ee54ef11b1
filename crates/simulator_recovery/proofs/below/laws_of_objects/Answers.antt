use Rattle.simulator_recovery.proofs.below.laws_of_objects.Goals as goal

pub returns : goal.returns
returns c = record {
  point_makes_a_step = c.point_makes_a_step.ensures;
  point_step_tells_what_was_taken = c.step_tells_what_was_taken.ensures;
  detector_step_is_told_to_the_object = c.step_is_told_to_the_object.ensures;
}
