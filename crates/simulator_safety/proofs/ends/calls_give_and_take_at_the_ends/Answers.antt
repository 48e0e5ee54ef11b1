use Rattle.simulator_safety.proofs.FarEndCalls.{begun_same, given_same, taken_same}
use Rattle.simulator_safety.proofs.ends.calls_give_and_take_at_the_ends.Goals as goal

pub returns : goal.returns
returns c = record { given = given_same; taken = taken_same; begun = begun_same }
