use Rattle.layout_text.specs.Values.{name_at}
use Rattle.layout_text.specs.Text.{names_at}
use Rattle.layout_text.proofs.TextLemmas.{all_of-view}
use Rattle.layout_text.proofs.entries_read.names.Goals as goal

pub returns : goal.returns
unfolding names_at
returns c = rw (c.in_ok-items.ensures, all_of-view (name_at c.args.place) c.in_ok-items.items.now) c.all.ensures
