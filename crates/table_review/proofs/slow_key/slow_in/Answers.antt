use Rattle.layout_text.specs.declared.fault.TableName.TheVariants as named
use Rattle.table_review.specs.SlowKey.{slow_at, slow_in}
use Rattle.table_review.proofs.ValueLemmas.{each_of-view}
use Rattle.table_review.proofs.slow_key.slow_in.Goals as goal

pub returns : goal.returns
unfolding slow_in
returns c = rw (c.in_ok-points.ensures, each_of-view slow_at named.Point 1 c.in_ok-points.points.now) c.each.ensures
