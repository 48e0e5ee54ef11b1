use Rattle.std.proofs.Common.{◌≡◌, ◌∙◌, [], ap, map, string_bytes, sym}
use Rattle.std.proofs.lemmas.Result.{IfOk-weaker}
use Rattle.railway_check.specs.RailwayVerdict.{HasRailway, IsVerdict, verdict_by}
use Rattle.railway_check.specs.Verdicts.{VerdictState}
use Rattle.railway_check.proofs.Judged.{silent, sound_railway}
use Rattle.railway_check.proofs.railway.railway_verdict.Goals as goal

pub returns-clause-told : goal.returns-clause-told
returns-clause-told c =
    let text = c.args.railway.now in
    let layouts = map string_bytes c.args.layouts.now in
    let verdicts = c.args.verdicts.now in
    let by = verdict_by c.args.explained text verdicts in
    IfOk-weaker c.verdict_by.result (λ v. v ≡ by c.deref.result.now) (IsVerdict c.args.explained text layouts verdicts)
    (λ v is. (c.in_ok-faults.faults.items, c.in_ok-faults.ensures, is ∙ ap by c.deref.ensures.value)) c.verdict_by.ensures

pub returns-clause-sound : goal.returns-clause-sound
returns-clause-sound c =
    let text = c.args.railway.now in
    let layouts = map string_bytes c.args.layouts.now in
    let verdicts = c.args.verdicts.now in
    let by = verdict_by c.args.explained text verdicts in
    IfOk-weaker c.verdict_by.result (λ v. v ≡ by c.deref.result.now) (λ v. v.status ≡ 0 → HasRailway text layouts)
    (λ v is zero. sound_railway text layouts c.in_ok-faults.faults.items verdicts c.in_ok-faults.ensures (sym (ap (λ (v : VerdictState). v.status) (is ∙ ap by c.deref.ensures.value)) ∙ zero)) c.verdict_by.ensures

pub returns-clause-silent : goal.returns-clause-silent
returns-clause-silent c =
    let text = c.args.railway.now in
    let verdicts = c.args.verdicts.now in
    let by = verdict_by c.args.explained text verdicts in
    let faults = c.in_ok-faults.faults.items in
    IfOk-weaker c.verdict_by.result (λ v. v ≡ by c.deref.result.now) (λ v. v.status ≡ 0 → v.err ≡ [])
    (λ v is zero.
    let so = is ∙ ap by c.deref.ensures.value in
    ap (λ (v : VerdictState). v.err) so ∙ silent c.args.explained text faults verdicts (sym (ap (λ (v : VerdictState). v.status) so) ∙ zero)) c.verdict_by.ensures
