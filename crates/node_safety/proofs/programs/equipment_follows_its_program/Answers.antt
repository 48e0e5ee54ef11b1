use Rattle.node_safety.proofs.ByCalls.{lamp_follows, motor_follows}
use Rattle.node_safety.proofs.programs.equipment_follows_its_program.Goals as goal

pub returns : goal.returns
returns c = record {
  lamps = lamp_follows c.the_equipment_follows_what_counts.ensures c.orders_tell_all_until_the_next.ensures.lamp;
  motors = motor_follows c.the_equipment_follows_what_counts-2.ensures c.orders_tell_all_until_the_next.ensures.drive c.a_point_drives_as_its_last_line.ensures;
}
