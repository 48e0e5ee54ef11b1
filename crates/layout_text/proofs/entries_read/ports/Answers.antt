use Rattle.layout_text.specs.Values.{port_at}
use Rattle.layout_text.specs.Text.{ports_at}
use Rattle.layout_text.proofs.TextLemmas.{all_of-view}
use Rattle.layout_text.proofs.entries_read.ports.Goals as goal

pub returns : goal.returns
unfolding ports_at
returns c = rw (c.in_ok-items.ensures, all_of-view (port_at c.args.place) c.in_ok-items.items.now) c.all.ensures
