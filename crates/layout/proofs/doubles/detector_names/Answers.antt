use Rattle.layout_text.specs.declared.fault.TableName.TheVariants as named
use Rattle.layout.proofs.KnownLemmas.{each_of-sure}
use Rattle.layout.proofs.doubles.detector_names.Goals as goal

pub returns : goal.returns
returns c = rw (each_of-sure (λ x. x.name) named.Detector 1 c.args.detectors.now) at c.each.ensures
