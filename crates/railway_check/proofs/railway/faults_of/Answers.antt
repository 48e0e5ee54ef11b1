use Rattle.std.proofs.Common.{map, string_bytes, subst, sym}
use Rattle.railway_check.specs.RailwayVerdict.{AreFaults}
use Rattle.railway_check.proofs.Judged.{refused_faults}
use Rattle.railway_check.proofs.railway.faults_of.Goals as goal

pub returns-in-Ok : goal.returns-in-Ok
returns-in-Ok c = subst (AreFaults c.args.railway.now (map string_bytes c.args.layouts.now)) (sym c.new.ensures.items) (c.in-Ok.field-0, c.in-Ok.ensures.railway)

pub returns-in-Err-Faults : goal.returns-in-Err-Faults
returns-in-Err-Faults c =
    rw c.in-Err-Faults.faults-is (refused_faults c.args.railway.now (map string_bytes c.args.layouts.now) c.in-Err-Faults.field-0 c.in-Err-Faults.faults c.in-Err-Faults.ensures.refused c.in-Err-Faults.field-0-is)
