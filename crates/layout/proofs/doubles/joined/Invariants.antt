use Rattle.std.proofs.Common.{◌≡◌, ◌+◌, [], drop}
use Rattle.layout_text.specs.declared.fault.TableName.TheVariants as named
use Rattle.layout.specs.declared.known.Double.TheVariants as double
use Rattle.layout.specs.Known.{note_lists, same_port}
use Rattle.layout.specs.Doubles.{ports_joined}
use Rattle.layout.proofs.doubles.joined.Given as goal

abbrev pub invariant-loop-before : goal.invariant-loop-before
invariant-loop-before l = note_lists same_port double.Joint ports_joined named.Joint (l.before + 1) (drop l.before l.joints) l.known.entries ≡ note_lists same_port double.Joint ports_joined named.Joint 1 l.joints []
