use Rattle.layout_text.specs.Text.{entries_at, signal_at}
use Rattle.layout_text.specs.declared.fault.TableName.TheVariants as named
use Rattle.layout_text.proofs.TextLemmas.{each_of-view}
use Rattle.layout_text.proofs.text.signals.Goals as goal

pub returns : goal.returns
unfolding entries_at
returns c = rw (c.in_ok-items.ensures, each_of-view signal_at named.Signal 1 c.in_ok-items.items.now) c.each.ensures
