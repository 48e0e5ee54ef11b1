use Rattle.simulator_move_laws.proofs.Links.LawfulLinks.{event_lawful, run_lawful}
use Rattle.simulator_move_laws.proofs.lawful.lawful_links_stay_lawful.Goals as goal

pub returns-clause-starts : goal.returns-clause-starts
returns-clause-starts c = λ names start are. record {
  timely = c.starts_in_time.ensures names start are;
  ordered = c.every_event_keeps_order.ensures.starts names start;
  newest = c.newest_tells_the_connection.ensures.starts names start;
  given = c.given_was_sent.ensures.starts names start;
  unused = c.nothing_before_a_connection.ensures.starts names start;
}

pub returns-clause-kept : goal.returns-clause-kept
returns-clause-kept c = event_lawful (record {
  time = c.every_event_keeps_time.ensures;
  order = c.every_event_keeps_order.ensures.kept;
  newest = c.newest_tells_the_connection.ensures.kept;
  given = c.given_was_sent.ensures.kept;
  unused = c.nothing_before_a_connection.ensures.kept;
})

pub returns-clause-run : goal.returns-clause-run
returns-clause-run c = run_lawful (record {
  time = c.every_event_keeps_time.ensures;
  order = c.every_event_keeps_order.ensures.kept;
  newest = c.newest_tells_the_connection.ensures.kept;
  given = c.given_was_sent.ensures.kept;
  unused = c.nothing_before_a_connection.ensures.kept;
})
