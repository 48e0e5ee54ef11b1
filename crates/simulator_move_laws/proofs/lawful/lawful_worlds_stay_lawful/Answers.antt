use Rattle.simulator_move_laws.proofs.Links.LawfulLinks.{world_lawful, worlds_lawful}
use Rattle.simulator_move_laws.proofs.lawful.lawful_worlds_stay_lawful.Goals as goal

pub returns-clause-starts : goal.returns-clause-starts
returns-clause-starts c = λ count names start are. record {
  timely = c.links_keep_time.ensures.starts count names start are;
  ordered = c.links_keep_order.ensures.starts count names start;
  newest = λ link below. c.links_can_be_read_off.ensures.connection_starts names start link;
  given = λ link below. c.links_can_be_read_off.ensures.given_starts names start link;
  unused = λ link below. c.links_can_be_read_off.ensures.unused_starts names start link;
}

pub returns-clause-kept : goal.returns-clause-kept
returns-clause-kept c = world_lawful (record {
  time = c.links_keep_time.ensures.kept;
  order = c.links_keep_order.ensures.kept;
  newest = c.links_can_be_read_off.ensures.connection_kept;
  given = c.links_can_be_read_off.ensures.given_kept;
  unused = c.links_can_be_read_off.ensures.unused_kept;
})

pub returns-clause-run : goal.returns-clause-run
returns-clause-run c = worlds_lawful (record {
  time = c.links_keep_time.ensures.kept;
  order = c.links_keep_order.ensures.kept;
  newest = c.links_can_be_read_off.ensures.connection_kept;
  given = c.links_can_be_read_off.ensures.given_kept;
  unused = c.links_can_be_read_off.ensures.unused_kept;
})

pub returns-clause-each : goal.returns-clause-each
returns-clause-each c = λ count names links is link below. record {
  timely = is.timely.each link below;
  ordered = is.ordered link below;
  newest = is.newest link below;
  given = is.given link below;
  unused = is.unused link below;
}
