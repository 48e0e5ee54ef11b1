use Rattle.simulator_recovery.proofs.Words.Basics.{ℕ, ◌∷◌, ◌++◌, get_or, sym, subst, ◌∙◌, Contains, Contains-get_or, same_Some}
use Rattle.simulator_recovery.proofs.Words.Controllers.{Occupancy, Clear}
use Rattle.simulator_recovery.proofs.Words.Interlockings.{AllClear, IsClear}
use Rattle.simulator_recovery.proofs.Words.Stations.{WorldState}
use Rattle.simulator_recovery.proofs.Words.Recovery.{IsLeft, good_rounds, IsKnownAs, IsKnownAsInTheField}
use Rattle.simulator_recovery.proofs.routes_going.routes_are_free_behind_their_trains.Goals as goal

pub returns : goal.returns
returns c between later more flowing number clock freed row route good long enough untold left is seen ends =
    c.trains_free_their_routes.ensures flowing.state.sited.site flowing.state.sited.table behind number clock freed row route good.flow.station good.flow.table
    (c.good_rounds_are_events.ensures (between ∷ (later ++ more)) flowing good.flow.reached) is (record { seen = seen; clear = all_clear }) ends
  where
    behind : WorldState
    behind = (good_rounds (between ∷ (later ++ more)) flowing).state.run

    clear : (section : ℕ) → Contains row.sections section → IsLeft section between (later ++ more) flowing → IsClear flowing.state.sited.table behind.interlocking.ixl section
    clear section among lies = subst (λ (o : Occupancy). IsKnownAs flowing.state.sited.table behind.interlocking.ixl section o) (same_Some known.0 Clear (sym known.1 ∙ lies.clear)) known.2
      where
        known : IsKnownAsInTheField flowing.state.sited.table behind section
        known = c.sections_are_reported.ensures between later more flowing section lies.reporter good lies.reports long enough
            lies.below (untold section among)

    all_clear : AllClear flowing.state.sited.table behind.interlocking.ixl row.sections
    all_clear place other within =
        let among = Contains-get_or row.sections place other within
        in clear (get_or row.sections place other) among (left (get_or row.sections place other) among)
