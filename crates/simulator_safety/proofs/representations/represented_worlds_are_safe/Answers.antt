use Rattle.simulator_link_laws.specs.simulator_move_laws.Rows.{machine_table}
use Rattle.simulator_safety.proofs.representations.represented_worlds_are_safe.Goals as goal

pub returns : goal.returns
returns c = λ site table world machine seen once station is represented of.
    c.seen_stations_are_safe.ensures site table world machine seen once station is
    (c.promise_follows.ensures (machine_table table) machine (c.tables_are_sound.ensures table) represented.invariant)
    (c.represented_worlds_are_seen.ensures.seen site table world machine station is represented) of
