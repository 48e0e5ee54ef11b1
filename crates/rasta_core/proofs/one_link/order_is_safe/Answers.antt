use Rattle.rasta_core.proofs.Events.{ordered_safe}
use Rattle.rasta_core.proofs.one_link.order_is_safe.Goals as goal

pub returns : goal.returns
returns c = ordered_safe (record {
  beginning = c.parts_are_safe.ensures.beginning;
  confirmed = c.parts_are_safe.ensures.confirmed;
  swapped = c.partner_stays.ensures.order;
})
