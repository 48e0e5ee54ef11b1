use Rattle.simulator_spec.specs.rasta_core.Ends.{Receives}
use Rattle.simulator_spec.specs.Links.{names_at}
use Rattle.simulator_spec.specs.Nodes.{links}
use Rattle.simulator_spec.specs.Refusals.{refusal}
use Rattle.simulator_link_laws.proofs.Controllers.{end_may}
use Rattle.simulator_link_laws.proofs.Delivered.{deliverable, delivery_may}
use Rattle.simulator_link_laws.proofs.nodes.deliveries_may_come.Goals as goal

pub returns : goal.returns
unfolding refusal
returns c = record {
  links = λ site node bytes world before are none link.
      delivery_may c.copies_are_delivered.ensures c.intact_is_tested.ensures site world before bytes link are (deliverable site node.0 bytes world none);
  ends = λ site who bytes connection before are timely link below may. end_may (record {
    settles = c.links_are_settled.ensures;
    sees = c.each_link_sees_its_events.ensures.event;
    may = c.each_link_sees_its_events.ensures.may_happen;
    time = c.links_keep_time.ensures.kept;
    run_time = c.links_keep_time.ensures.run;
  }) (links site) (names_at site) link who (Receives bytes connection) before are timely below may;
}
