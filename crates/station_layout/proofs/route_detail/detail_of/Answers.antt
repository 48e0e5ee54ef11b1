use Rattle.std.proofs.Common.{◌∙◌, ◌==◌, ap, length, sym}
use Rattle.station_layout.proofs.StepsFound.{broken, by_steps}
use Rattle.station_layout.proofs.route_detail.detail_of.Goals as goal
use Rattle.station_layout.proofs.route_detail.detail_of.Goals.{in_default-via-in-PathBroken+else-is_empty, in_default-via-in_default}

pub returns-in_default : goal.returns-in_default
returns-in_default c =
    let l = c.args.layout.now in
    let r = c.args.route.now in
    elim c.in_default.branch [
      | in_default-via-in-PathBroken+else-is_empty w ↦
          let some = ap (λ path. length path == 0) (sym w.path.ensures) ∙ sym w.is_empty.ensures ∙ w.if-is_empty.false in
          c.first_step_detail.ensures ∙ rw w.in-PathBroken.is (broken l r c.args.id _ some)
      | in_default-via-in_default w ↦
          let other = w.in_default in
          c.first_step_detail.ensures
          ∙ by_steps l r c.args.id c.args.fault.now (λ at is. absurd (other.not-PathBroken at is)) other.not-PathRepeats other.not-PointMissing other.not-PointWrong other.not-SignalPlace other.not-NotSymmetric
    ]
