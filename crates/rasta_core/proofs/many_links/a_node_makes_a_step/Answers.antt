use Rattle.rasta_core.proofs.Nodes.{node_after, node_partner, node_stays, node_time}
use Rattle.rasta_core.proofs.many_links.a_node_makes_a_step.Goals as goal

pub returns-clause-end : goal.returns-clause-end
returns-clause-end c = node_after (record {
  end = c.calls_at_one_clock.ensures.end;
  items = c.calls_at_one_clock.ensures.items;
  partner = c.calls_at_one_clock.ensures.partner;
  nothing = c.calls_follow_calls.ensures.nothing;
  after = c.calls_follow_calls.ensures.after;
  entering = c.calls_follow_calls.ensures.entering;
  stays = c.calls_follow_calls.ensures.stays;
})

pub returns-clause-items : goal.returns-clause-items
returns-clause-items c = node_stays (record {
  end = c.calls_at_one_clock.ensures.end;
  items = c.calls_at_one_clock.ensures.items;
  partner = c.calls_at_one_clock.ensures.partner;
  nothing = c.calls_follow_calls.ensures.nothing;
  after = c.calls_follow_calls.ensures.after;
  entering = c.calls_follow_calls.ensures.entering;
  stays = c.calls_follow_calls.ensures.stays;
})

pub returns-clause-partner : goal.returns-clause-partner
returns-clause-partner c = node_partner (record {
  end = c.calls_at_one_clock.ensures.end;
  items = c.calls_at_one_clock.ensures.items;
  partner = c.calls_at_one_clock.ensures.partner;
  nothing = c.calls_follow_calls.ensures.nothing;
  after = c.calls_follow_calls.ensures.after;
  entering = c.calls_follow_calls.ensures.entering;
  stays = c.calls_follow_calls.ensures.stays;
})

pub returns-clause-time : goal.returns-clause-time
returns-clause-time c = node_time
