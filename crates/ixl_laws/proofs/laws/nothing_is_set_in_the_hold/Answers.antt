use Rattle.ixl_laws.proofs.Unset.{unset_stays}
use Rattle.ixl_laws.proofs.laws.nothing_is_set_in_the_hold.Goals as goal

pub returns : goal.returns
returns c now input old new answer number before after stepped is also holding unset =
    unset_stays now input old new answer number before after c.requests_are_accepted_where_admissible.ensures.accepted stepped is also holding unset
