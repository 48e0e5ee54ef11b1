use Rattle.simulator_node_laws.proofs.laws.what_the_nodes_show_is_safe.Goals as goal

pub returns : goal.returns
returns c = λ site table outset lies events seen once station is can of_nodes.
    c.every_world_is_safe.ensures.safe site table outset events seen once station is lies can (c.what_the_nodes_show_is_seen.ensures.seen site table outset lies events seen of_nodes)
