use Rattle.std.proofs.Common.{◌∙◌, ap}
use Rattle.station_drive.specs.Inside.{applied_to}
use Rattle.station_drive.specs.Rounds.{not_due}
use Rattle.station_drive.proofs.WaitingLines.{applied_above, not_due_twice}
use Rattle.station_drive.proofs.waiting_lines.WaitingLines.after.Goals as goal

pub returns : goal.returns
returns c =
    let applied = c.args.self.now.applied in
    let passed = c.args.passed in
    ap (λ n. not_due n c.behind.result.now) c.applied_to.ensures
    ∙ (c.behind.ensures.left (applied_to applied passed) (applied_above applied passed) ∙ not_due_twice applied passed c.args.self.now.lines.now)
