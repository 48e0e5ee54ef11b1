use Rattle.simulator_recovery.proofs.below.laws_below.Goals as goal

pub returns : goal.returns
returns c = record {
  of_links = c.laws_of_links.ensures;
  of_rounds = c.laws_of_rounds.ensures;
  of_objects = c.laws_of_objects.ensures;
  of_interlockings = c.laws_of_interlockings.ensures;
  of_machine = c.laws_of_machine.ensures;
  of_stations = c.laws_of_stations.ensures;
  signals = c.laws_of_host.ensures;
  points = c.laws_of_host-2.ensures;
  detectors = c.laws_of_host-3.ensures;
}
