use Rattle.std.proofs.Common.{◌≤◌, ◌+◌, ℕ, subst}
use Rattle.node_kinds.specs.simulator_spec.rasta_core.Bag.{lifetime}
use Rattle.node_safety.proofs.Aged.{age}
use Rattle.node_safety.proofs.journeys.what_keeps_its_shares_is_fresh.Goals as goal

pub returns : goal.returns
returns c = record {
  age = age;
  fresh = λ site table outset events bytes place departure left same journey is handed heard. record {
    place = place;
    departure = departure;
    left = left;
    same = same;
    in_time = subst (λ (n : ℕ). n ≤ departure.time + lifetime) heard (subst (λ (n : ℕ). journey.heard.at ≤ n + lifetime) handed (age journey is));
  };
}
