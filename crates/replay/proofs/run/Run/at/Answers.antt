use Rattle.std.proofs.Common.{refl, rules}
use Rattle.replay.proofs.run.Run.at.Goals as goal

pub returns : goal.returns
returns c = record {
  first = record {
    site_is = c.in_ok-at.ensures.site;
    once = c.layout.ensures.once;
    station = c.layout.ensures.station;
    table = c.in_ok-at.ensures.table;
    fits = c.requires;
    run_is = (search rules);
  };
  none_passed = refl;
  none_driven = (search rules);
}
