use Rattle.node_safety.specs.Orders.{events_of}
use Rattle.node_safety.proofs.Happens.{keep, may}
use Rattle.node_safety.proofs.orders.what_processes_and_programs_did_is_safe.Goals as goal

pub returns : goal.returns
returns c site table outset is_outset once station is_table order history before behind is seen on =
    let may_come = may site table outset c.contacts_of_sections_change_no_snapshot.ensures.allowed (c.what_is_delivered_left_a_node.ensures.comes site table outset is_outset station is_table)
    (c.a_point_may_be_told_while_it_is_driven.ensures site table outset is_outset) c.orders_tell_all_until_the_next.ensures.drive c.a_point_drives_as_its_last_line.ensures
    order history before behind is in
    c.what_processes_and_programs_do_is_safe.ensures site table outset is_outset (events_of before) once station is_table may_come (keep site table outset order history before behind is) (history.records before behind is) seen on
