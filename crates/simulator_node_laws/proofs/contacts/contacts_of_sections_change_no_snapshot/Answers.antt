use Rattle.simulator_node_laws.proofs.Events.{section_allowed, section_seen}
use Rattle.simulator_node_laws.proofs.contacts.contacts_of_sections_change_no_snapshot.Goals as goal

pub returns : goal.returns
returns c = record { allowed = section_allowed; seen = section_seen }
