use Rattle.simulator_recovery.proofs.Words.Basics.{refl, arith}
use Rattle.simulator_recovery.proofs.Lemmas.Lamps.StopComes.{entry_there}
use Rattle.simulator_recovery.proofs.Lemmas.RoutesGoing.TrainsGone.{free_behind}
use Rattle.simulator_recovery.proofs.routes_going.withdrawn_routes_are_free_behind_their_trains.Goals as goal

pub returns : goal.returns
returns c = λ between later_rounds more flowing number row route state good long enough apart untold below left is withdrawn is_then seen.
    free_behind c.laws_below.ensures between later_rounds more flowing number row route state good.flow.reached good.works apart is withdrawn is_then (record {
      unwithdrawn = λ one is_one still. c.authority_ends_within_a_heartbeat.ensures between later_rounds more flowing row.entry good
          (entry_there flowing.state.sited.site flowing.state.sited.table good.flow.station good.flow.table number row is.0) (omega (arith, long)) enough below
          (record { number = number; row = row; route = route; is_route = is; entry = refl; withdrawn = withdrawn })
          (record { number = number; row = row; route = one; is_route = is_one; entry = refl; withdrawn = still }) apart;
      unended = λ one clock freed. c.routes_are_free_behind_their_trains.ensures between later_rounds more flowing number clock freed row one good long (omega (arith, enough)) untold left;
    }) seen
