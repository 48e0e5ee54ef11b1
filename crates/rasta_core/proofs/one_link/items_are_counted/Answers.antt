use Rattle.rasta_core.proofs.Events.{alone_counted, ordered_counted, ordered_few}
use Rattle.rasta_core.proofs.one_link.items_are_counted.Goals as goal

pub returns-clause-counted : goal.returns-clause-counted
returns-clause-counted c = ordered_counted (record {
  beginning = c.parts_are_safe.ensures.beginning;
  confirmed = c.parts_are_safe.ensures.confirmed;
  swapped = c.partner_stays.ensures.order;
})

pub returns-clause-few : goal.returns-clause-few
returns-clause-few c = ordered_few (record {
  beginning = c.parts_are_safe.ensures.beginning;
  confirmed = c.parts_are_safe.ensures.confirmed;
  swapped = c.partner_stays.ensures.order;
})

pub returns-clause-alone : goal.returns-clause-alone
returns-clause-alone c = alone_counted
