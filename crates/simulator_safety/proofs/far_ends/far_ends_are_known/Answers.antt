use Rattle.std.proofs.Common.{List, subst}
use Rattle.simulator_link_laws.specs.rasta_core.Clock.{settled}
use Rattle.simulator_link_laws.specs.rasta_core.Run.{Ends}
use Rattle.simulator_link_laws.specs.rasta_core.State.{LinkState}
use Rattle.simulator_link_laws.specs.ixl_client.Client.{PeerState}
use Rattle.simulator_link_laws.specs.ixl_client.Made.{link_after}
use Rattle.simulator_link_laws.specs.ixl_client.ClientSoFar.{LinkCall}
use Rattle.simulator_link_laws.specs.simulator_move_laws.Flows.{ClientKnows}
use Rattle.simulator_link_laws.specs.simulator_move_laws.Calls.{Items, items_after}
use Rattle.simulator_link_laws.specs.simulator_move_laws.Facts.{AreCallsIn}
use Rattle.simulator_link_laws.specs.simulator_move_laws.Sees.{SeesSignal, SignalFits}
use Rattle.simulator_safety.specs.At.{IsClientAt}
use Rattle.simulator_safety.specs.Calls.{as_calls}
use Rattle.simulator_safety.proofs.FarEndCalls.{begins_none, may_each}
use Rattle.simulator_safety.proofs.ClientKnowledge.{confirmed_done, known_then, link_facts, reports_heard}
use Rattle.simulator_safety.proofs.far_ends.far_ends_are_known.Goals as goal

pub returns : goal.returns
returns c now input ixl given machine sees are = record {
  clock = are.clock;
  signals = λ place known_signal there made calls_are.
      let at = are.signals place known_signal there
      in let knows = knowing known_signal.client.peer known_signal.client.link (given.signals place) at.ends at.client made calls_are
      in let fits : SignalFits now ixl known_signal (given.signals place) (machine.signals place) =
      subst (λ l. SeesSignal now ixl l (given.signals place) (machine.signals place)) there (sees.signals place)
      in record {
        ends = link_facts now input known_signal.client.peer known_signal.client.link (given.signals place) at.ends at.client made knows (machine.signals place).link at.seen.link;
        confirmed = confirmed_done c.items_join.ensures.aspects now input known_signal (given.signals place) at.ends at.host (machine.signals place) at.client at.seen fits.fits
            (c.flows_are_in_order.ensures.flows at.client.names at.ends at.client.lawful)
            (c.representations_tell_the_connection.ensures.outside at.client.names at.ends at.client.lawful.timely) _ _ _ knows;
      };
  points = λ place known_point there made calls_are.
      let at = are.points place known_point there
      in let knows = knowing known_point.client.peer known_point.client.link (given.points place) at.ends at.client made calls_are
      in record {
        ends = link_facts now input known_point.client.peer known_point.client.link (given.points place) at.ends at.client made knows (machine.points place).link at.seen.link;
        reports = λ opened. reports_heard c.written_is_read.ensures.read c.items_join.ensures.reports known_point.client.peer at.ends at.host (machine.points place) _ _ _ at.seen at.objects knows;
      };
} where
  knowing : (peer : PeerState) (link : LinkState) (items : Items) (ends : Ends) (at : IsClientAt now input peer link items ends) (made : List LinkCall) → AreCallsIn input peer made →
      ClientKnows ends (link_after now made (settled now link)) (items_after now made (settled now link) items).given (items_after now made (settled now link) items).taken
  knowing peer link items ends at made calls_are =
      known_then now input peer link items ends at made
      (c.clients_know_throughout.ensures at.names (as_calls at.connection made) ends at.are at.lawful
      (may_each c.written_is_read.ensures.item at.names input peer at.connection ends made at.peer_named at.comes calls_are)
      (begins_none _ at.connection input peer made ends.client.link calls_are))
