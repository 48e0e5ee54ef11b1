use Rattle.simulator_node_laws.specs.Contacts.{point_now}
use Rattle.simulator_node_laws.specs.Shown.{point_life}
use Rattle.simulator_node_laws.proofs.PointsAgain.{PointLaws, point_kept, told_again}
use Rattle.simulator_node_laws.proofs.PointsDrive.{noise_drives}
use Rattle.simulator_node_laws.proofs.contacts.a_point_may_be_told_again.Goals as goal

pub returns : goal.returns
returns c =
    let laws : PointLaws = record {
      new = c.steps_keep_a_host.ensures.new;
      steady = c.steps_keep_a_host.ensures.steady;
      hosted = c.steps_keep_a_host.ensures.hosted;
      step = c.point_makes_a_step.ensures;
    }
    in record {
      senses = λ site table outset events place entry. (point_kept laws site entry table outset events place).sensed;
      again = λ site table outset events place entry now few. told_again now (point_now site entry (point_life site table outset events place)) _ (point_kept laws site entry table outset events place) few;
      drives = λ site table outset events place entry now few. noise_drives now (point_now site entry (point_life site table outset events place)) _ (point_kept laws site entry table outset events place) few;
    }
