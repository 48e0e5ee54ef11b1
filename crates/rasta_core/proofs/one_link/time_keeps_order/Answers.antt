use Rattle.rasta_core.proofs.Events.{passed}
use Rattle.rasta_core.proofs.one_link.time_keeps_order.Goals as goal

pub returns : goal.returns
returns c = passed (record {
  settled_plays = c.calls_keep_order.ensures.settling;
  swapped = c.partner_stays.ensures.order;
  early_settled = c.client_alone.ensures.settling;
})
