use Rattle.std.proofs.Common.{◌≡◌, ◌+◌, [], drop}
use Rattle.layout_text.specs.declared.fault.TableName.TheVariants as named
use Rattle.layout.specs.declared.known.Double.TheVariants as double
use Rattle.layout.specs.Known.{note_lists, same_name}
use Rattle.layout.specs.Doubles.{sections_reported}
use Rattle.layout.proofs.doubles.reported.Given as goal

abbrev pub invariant-loop-before : goal.invariant-loop-before
invariant-loop-before l = note_lists same_name double.Name sections_reported named.Detector (l.before + 1) (drop l.before l.detectors) l.known.entries ≡ note_lists same_name double.Name sections_reported named.Detector 1 l.detectors []
