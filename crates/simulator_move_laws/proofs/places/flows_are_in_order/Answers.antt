use Rattle.simulator_move_laws.proofs.Links.Flows.{client_counts, flows, nothing_before, server_counts}
use Rattle.simulator_move_laws.proofs.places.flows_are_in_order.Goals as goal

pub returns-clause-flows : goal.returns-clause-flows
returns-clause-flows c = flows (record {
  place = record {
    settles = c.links_are_settled.ensures;
    alone = c.alone_after_quiet.ensures.server;
    joined = c.one_connection.ensures.up;
    together = c.one_connection.ensures.server;
  };
  safe = c.order_is_safe.ensures;
  counted = c.items_are_counted.ensures.counted;
  alone = c.items_are_counted.ensures.alone;
  some = c.one_connection.ensures.some;
  early = c.nothing_before_a_connection.ensures.client;
})

pub returns-clause-client : goal.returns-clause-client
returns-clause-client c = client_counts (record {
  place = record {
    settles = c.links_are_settled.ensures;
    alone = c.alone_after_quiet.ensures.server;
    joined = c.one_connection.ensures.up;
    together = c.one_connection.ensures.server;
  };
  safe = c.order_is_safe.ensures;
  counted = c.items_are_counted.ensures.counted;
  alone = c.items_are_counted.ensures.alone;
  some = c.one_connection.ensures.some;
  early = c.nothing_before_a_connection.ensures.client;
})

pub returns-clause-server : goal.returns-clause-server
returns-clause-server c = server_counts (record {
  place = record {
    settles = c.links_are_settled.ensures;
    alone = c.alone_after_quiet.ensures.server;
    joined = c.one_connection.ensures.up;
    together = c.one_connection.ensures.server;
  };
  safe = c.order_is_safe.ensures;
  counted = c.items_are_counted.ensures.counted;
  alone = c.items_are_counted.ensures.alone;
  some = c.one_connection.ensures.some;
  early = c.nothing_before_a_connection.ensures.client;
})

pub returns-clause-before : goal.returns-clause-before
returns-clause-before c = nothing_before (record {
  place = record {
    settles = c.links_are_settled.ensures;
    alone = c.alone_after_quiet.ensures.server;
    joined = c.one_connection.ensures.up;
    together = c.one_connection.ensures.server;
  };
  safe = c.order_is_safe.ensures;
  counted = c.items_are_counted.ensures.counted;
  alone = c.items_are_counted.ensures.alone;
  some = c.one_connection.ensures.some;
  early = c.nothing_before_a_connection.ensures.client;
})

pub returns-clause-safe : goal.returns-clause-safe
returns-clause-safe c = λ names ends is. c.order_is_safe.ensures names ends is.ordered
