use Rattle.simulator_node_laws.specs.Contacts.{detector_now}
use Rattle.simulator_node_laws.specs.Said.{detector_life}
use Rattle.simulator_node_laws.proofs.DetectorsAgain.{DetectorLaws, detector_kept, told_again}
use Rattle.simulator_node_laws.proofs.contacts.a_detector_may_be_told_again.Goals as goal

pub returns : goal.returns
returns c =
    let laws : DetectorLaws = record {
      new = c.steps_keep_a_host.ensures.new;
      steady = c.steps_keep_a_host.ensures.steady;
      hosted = c.steps_keep_a_host.ensures.hosted;
      tells = c.step_is_told_to_the_object.ensures;
    }
    in record {
      senses = λ site table outset events place entry is. (detector_kept laws site entry table outset events place is).sensed;
      again = λ site table outset events place entry is section occupancy stands now few.
          told_again _ now section occupancy (detector_now site entry (detector_life site table outset events place)) _ (detector_kept laws site entry table outset events place is) stands few;
    }
