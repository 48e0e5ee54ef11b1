use Rattle.std.proofs.Common.{◌≡◌, map, take}
use Rattle.tds_ctl.specs.Sections.{made}
use Rattle.tds_ctl.proofs.detection.Detection.new.Given as goal

abbrev pub invariant-loop-name : goal.invariant-loop-name
invariant-loop-name l = l.made.items ≡ map made (take l.name-index l.sections)
