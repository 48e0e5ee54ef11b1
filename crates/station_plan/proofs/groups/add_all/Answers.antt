use Rattle.station_plan.proofs.groups.add_all.Goals as goal

pub returns : goal.returns
returns c = record {
  groups = c.add_groups.new.groups.items;
  grouped = c.in_ok-add_groups.ensures;
  notes = _;
  noted = c.in_ok-id.ensures.ok;
  is = c.in_ok-push.ensures.items;
}
