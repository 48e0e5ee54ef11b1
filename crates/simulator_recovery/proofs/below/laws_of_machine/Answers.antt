use Rattle.simulator_recovery.proofs.below.laws_of_machine.Goals as goal

pub returns : goal.returns
returns c = record {
  invariant_is_kept_first = c.invariant_is_kept.ensures.first;
  invariant_is_kept_each = c.invariant_is_kept.ensures.each;
}
