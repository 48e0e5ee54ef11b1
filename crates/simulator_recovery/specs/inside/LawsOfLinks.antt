-- What is so of the two ends of a link, and of the links of a network, whatever happens to them.
use Rattle.std.specs.Prelude.{IsTrue, List, None, Ok, Some, false, true, ℕ, ◌<◌, ◌↔◌, ◌≡◌, ◌≢◌, ◌⊎◌}
use Rattle.simulator_spec.specs.rasta_core.Bag.{newest_copy}
use Rattle.simulator_spec.specs.rasta_core.Clock.{settled}
use Rattle.simulator_spec.specs.rasta_core.Each.{Each}
use Rattle.simulator_spec.specs.rasta_core.EachLink.{AreOrdered, AreTimely}
use Rattle.simulator_spec.specs.rasta_core.Ends.{Call, EndState, Sent, is_taken, outcome, reading_of}
use Rattle.simulator_spec.specs.rasta_core.Events.{AreForeign, Event as LinkEvent, Event, IsDelivered, IsRun, May, MayCall, MayRun, Start, happened, run, started}
use Rattle.simulator_spec.specs.rasta_core.Invariant.{Timely}
use Rattle.simulator_spec.specs.rasta_core.Links.{AreLinks, Links, LinksEvent, LinksStart, MayHappenTo, MayRunLinks, OnLink, WasSent, begun, events_on, happened_to, run_links, run_on, seen, start_of}
use Rattle.simulator_spec.specs.rasta_core.Names.{AreNames, Names}
use Rattle.simulator_spec.specs.rasta_core.Nodes.{NodeCall, calls_of}
use Rattle.simulator_spec.specs.rasta_core.Ordered.{Ordered}
use Rattle.simulator_spec.specs.rasta_core.Run.{Ends, end_of}
use Rattle.simulator_spec.specs.rasta_core.Safe.{AreCounted, AreFew, AreSafe, IsIdle}
use Rattle.simulator_spec.specs.rasta_core.Sentences.{IsIn, IsOpening, IsOut, receipt_at}
use Rattle.simulator_spec.specs.rasta_core.State.{is_open, is_up}
use Rattle.simulator_spec.specs.rasta_core.Steps.{calls_at}
use Rattle.simulator_spec.specs.rasta_core.identity.Role.{Role}
use Rattle.simulator_spec.specs.rasta_core.identity.Role.TheVariants as role
use Rattle.simulator_spec.specs.rasta_pdu.PduRead.{reading}
use Rattle.simulator_spec.specs.rasta_pdu.SafetyCode.{IsIntact, intact}
use Rattle.simulator_spec.specs.rasta_pdu.Spelling.{writing}
use Rattle.simulator_spec.specs.rasta_pdu.Values.{IsPdu}
use Rattle.simulator_spec.specs.rasta_pdu.declared.key.Key.{Key}
use Rattle.simulator_spec.specs.rasta_pdu.declared.pdu.Pdu.{Pdu}

pub record LawsOfLinks : Type 0 where
  pub links_keep_time_starts : (count : ℕ) (names : ℕ → Names) (start : LinksStart) → AreLinks count names → AreTimely count names (begun names start)
  pub links_keep_time_run : (count : ℕ) (names : ℕ → Names) (events : List LinksEvent) (network : Links) → AreLinks count names → AreTimely count names network → MayRunLinks count names events network
      → AreTimely count names (run_links events network)
  pub a_node_makes_a_step : (calls : List NodeCall) (network : Links) (link : ℕ) → end_of role.Server (seen link (run_links (calls_of role.Client calls) network)) ≡ end_of role.Server (seen link network)
  pub items_are_counted : (names : Names) (ends : Ends) → Ordered names ends → AreCounted ends
  pub order_is_safe : (names : Names) (ends : Ends) → Ordered names ends → AreSafe ends
  pub each_link_sees_its_events_event : (link : ℕ) (one : LinksEvent) (before : Links) → seen link (happened_to one before) ≡ run (events_on link one before) (seen link before)
  pub each_link_is_a_run : (count : ℕ) (names : ℕ → Names) (start : LinksStart) (events : List LinksEvent) → AreLinks count names → MayRunLinks count names events (begun names start) → (link : ℕ) → link < count
      → IsRun (names link) (start_of link start) (seen link (run_links events (begun names start)))
  pub one_connection_up : (names : Names) (ends : Ends) → Timely names ends → is_up ends.client.link.phase ≡ true → ends.server.connection ≡ ends.client.connection
  pub one_connection_some : (names : Names) (ends : Ends) (who : Role) → Timely names ends → IsIn who ends → (connection : ℕ) × ((end_of who ends).connection ≡ Some connection)
  pub every_event_keeps_time : (names : Names) (event : LinkEvent) (ends : Ends) → AreNames names → Timely names ends → May names event ends → Timely names (happened event ends)
  pub one_connection_counted : (names : Names) (ends : Ends) (who : Role) (connection : ℕ) → Timely names ends → (end_of who ends).connection ≡ Some connection → connection < ends.moment
  pub outside_until_it_enters : (call : Call) (moment : ℕ) (end : EndState) → is_open end.link.phase ≡ false → (outcome call moment end).enters ≡ None → is_open (outcome call moment end).link.phase ≡ false
  pub every_event_keeps_order_kept : (names : Names) (event : Event) (ends : Ends) → AreNames names → Timely names ends → Ordered names ends → May names event ends → Ordered names (happened event ends)
  pub one_connection_server : (names : Names) (ends : Ends) → Timely names ends → IsIn role.Server ends → ends.server.connection ≡ ends.client.connection
  pub opening_is_new : (names : Names) (ends : Ends) (who : Role) (bytes : List ℕ) (connection : ℕ) (datagram : Sent) → AreNames names → Timely names ends → IsDelivered ends bytes connection datagram → IsOut who ends
      → is_taken (receipt_at who bytes ends).verdict ≡ true → IsOpening names who ends datagram
  pub what_is_taken : (names : Names) (ends : Ends) (who : Role) (bytes : List ℕ) → Timely names ends → (IsIntact names.key bytes → ⊥) ⊎ AreForeign names who bytes → IsIdle (receipt_at who bytes ends)
  pub every_run_keeps_time : (names : Names) (events : List Event) (ends : Ends) → AreNames names → Timely names ends → MayRun names events ends → Timely names (run events ends)
  pub every_run_keeps_order : (names : Names) (events : List Event) (ends : Ends) → AreNames names → Timely names ends → Ordered names ends → MayRun names events ends → Ordered names (run events ends)
  pub every_event_keeps_order_starts : (names : Names) (start : Start) → Ordered names (started names start)
  pub starts_in_time : (names : Names) (start : Start) → AreNames names → Timely names (started names start)
  pub each_link_sees_its_events_run : (link : ℕ) (events : List LinksEvent) (before : Links) → seen link (run_links events before) ≡ run (run_on link events before) (seen link before)
  pub each_link_sees_its_events_may_run : (count : ℕ) (names : ℕ → Names) (events : List LinksEvent) (before : Links) → AreLinks count names → AreTimely count names before → MayRunLinks count names events before → (link : ℕ)
      → link < count → MayRun (names link) (run_on link events before) (seen link before)
  pub written_pdu_is_read : (key : Key) (pdu : Pdu) → IsPdu pdu → reading key (writing key pdu) ≡ Ok pdu
  pub calls_hand_out_pdus : (names : Names) (ends : Ends) (who : Role) (call : Call) → Timely names ends → MayCall names who call ends → Each IsPdu (outcome call ends.moment (end_of who ends)).pdus
  pub links_are_settled : (names : Names) (ends : Ends) (who : Role) → Timely names ends → settled (reading_of (end_of who ends).clock) (end_of who ends).link ≡ (end_of who ends).link
  pub own_connection : (names : Names) (ends : Ends) (who : Role) (bytes : List ℕ) (connection : ℕ) (datagram : Sent) → Timely names ends → IsDelivered ends bytes connection datagram → IsIn who ends
      → (end_of who ends).connection ≡ Some datagram.connection
  pub items_are_counted_few : (names : Names) (ends : Ends) → Ordered names ends → AreFew ends
  pub each_delivery_is_seen_own : (links : Links) (bytes : List ℕ) (connection : ℕ) (one : OnLink) → WasSent links bytes connection one → IsDelivered (seen one.link links) bytes connection one.datagram
  pub each_delivery_is_seen_others : (count : ℕ) (names : ℕ → Names) (links : Links) → AreLinks count names → AreTimely count names links → (link : ℕ) → link < count → (who : Role) (bytes : List ℕ) (connection : ℕ) (one : OnLink)
      → WasSent links bytes connection one → link ≢ one.link → AreForeign (names link) who bytes
  pub copies_are_delivered : (ends : Ends) (bytes : List ℕ) (datagram : Sent) → newest_copy ends.time bytes ends.sent ≡ Some datagram → IsDelivered ends bytes datagram.connection datagram
  pub intact_is_tested : (key : Key) (bytes : List ℕ) → IsTrue (intact key bytes) ↔ IsIntact key bytes
  pub links_keep_order_starts : (count : ℕ) (names : ℕ → Names) (start : LinksStart) → AreOrdered count names (begun names start)
  pub links_keep_order_run : (count : ℕ) (names : ℕ → Names) (events : List LinksEvent) (network : Links) → AreLinks count names → AreTimely count names network → AreOrdered count names network
      → MayRunLinks count names events network → AreOrdered count names (run_links events network)
  pub calls_may_follow_calls : (names : Names) (who : Role) (calls : List Call) (ends : Ends) → Each (λ call. MayCall names who call ends) calls → MayRun names (calls_at who calls) ends
  pub each_link_sees_its_events_may_happen : (count : ℕ) (names : ℕ → Names) (one : LinksEvent) (network : Links) → AreLinks count names → AreTimely count names network → MayHappenTo count names one network → (link : ℕ) → link < count
      → MayRun (names link) (events_on link one network) (seen link network)
