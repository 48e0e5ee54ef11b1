use Rattle.node_safety.proofs.OnLines.{lines_rest}
use Rattle.node_safety.proofs.Rests.{safe_at_rest}
use Rattle.node_safety.proofs.orders.what_processes_and_programs_do_is_safe.Goals as goal

pub returns : goal.returns
returns c site table outset is_outset events once station is_table may time are seen on =
    let shot = c.what_the_nodes_show_is_seen.ensures.some site table outset events in
    safe_at_rest site shot.0 seen
    (lines_rest c.controllers_are_those_of_a_world.ensures.signals c.controllers_are_those_of_a_world.ensures.points c.orders_tell_all_until_the_next.ensures.lamp c.orders_tell_all_until_the_next.ensures.drive
    c.a_point_drives_as_its_last_line.ensures site table outset events are seen on shot.0 shot.1)
    (c.what_nodes_of_true_clocks_show_is_safe.ensures site table outset is_outset events shot.0 once station is_table may time shot.1)
