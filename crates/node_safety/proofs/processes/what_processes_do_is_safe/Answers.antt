use Rattle.node_safety.proofs.Seen.{seen_by_orders}
use Rattle.node_safety.proofs.processes.what_processes_do_is_safe.Goals as goal

-- src/processes.rt:27:1
pub returns : goal.returns
returns c site table outset is events processes seen once station is_table can are of_processes =
    c.what_the_nodes_show_is_safe.ensures site table outset is events seen once station is_table can
    (seen_by_orders c.a_node_is_what_came_to_it.ensures c.the_last_order_stands.ensures c.a_node_is_what_came_to_it-2.ensures c.the_last_order_stands-2.ensures c.a_node_is_what_came_to_it-3.ensures
    c.controllers_are_those_of_a_world.ensures.signals c.controllers_are_those_of_a_world.ensures.points c.interlockings_are_those_of_a_world.ensures
    c.orders_tell_all_until_the_next.ensures.lamp c.orders_tell_all_until_the_next.ensures.drive c.a_point_drives_as_its_last_line.ensures
    site table outset events processes are seen of_processes)
