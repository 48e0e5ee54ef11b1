use Rattle.std.proofs.Common.{sym, subst}
use Rattle.rasta_core.specs.Given.{IsGiven}
use Rattle.rasta_core.specs.Links.{PassesFor, seen}
use Rattle.rasta_core.specs.Newest.{IsNewest, IsUnused}
use Rattle.rasta_core.specs.Ordered.{Ordered}
use Rattle.rasta_core.specs.Run.{Ends}
use Rattle.simulator_move_laws.proofs.lawful.lawful_worlds_pass_time.Goals as goal

pub returns : goal.returns
returns c = λ count names elapsed of_clients of_servers links is timely. record {
  timely = timely;
  ordered = λ link below. subst (λ (ends : Ends). Ordered (names link) ends) (sym (c.each_link_sees_its_events.ensures.event link (PassesFor elapsed of_clients of_servers) links))
      (c.time_keeps_order.ensures (names link) elapsed (of_clients link) (of_servers link) (seen link links) (is.ordered link below));
  newest = λ link below who. subst (λ (ends : Ends). IsNewest who ends) (sym (c.each_link_sees_its_events.ensures.event link (PassesFor elapsed of_clients of_servers) links))
      (c.time_changes_no_connection.ensures.newest elapsed (of_clients link) (of_servers link) (seen link links) who (is.newest link below who));
  given = λ link below who. subst (λ (ends : Ends). IsGiven (names link) who ends) (sym (c.each_link_sees_its_events.ensures.event link (PassesFor elapsed of_clients of_servers) links))
      (c.time_changes_no_connection.ensures.given (names link) elapsed (of_clients link) (of_servers link) (seen link links) who (is.given link below who));
  unused = λ link below who. subst (λ (ends : Ends). IsUnused who ends) (sym (c.each_link_sees_its_events.ensures.event link (PassesFor elapsed of_clients of_servers) links))
      (c.time_changes_no_connection.ensures.unused elapsed (of_clients link) (of_servers link) (seen link links) who (is.unused link below who));
}
