use Rattle.layout_text.specs.declared.fault.TableName.TheVariants as named
use Rattle.layout.proofs.KnownLemmas.{each_of-sure}
use Rattle.layout.proofs.doubles.signal_ports.Goals as goal

pub returns : goal.returns
returns c = rw (each_of-sure (λ x. x.at) named.Signal 1 c.args.signals.now) at c.each.ensures
