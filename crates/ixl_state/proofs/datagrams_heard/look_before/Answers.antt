use Rattle.std.proofs.Common.{◌≡◌, Some, length, ap, refl, subst, arith}
use Rattle.std.specs.Prelude.{slice_get}
use Rattle.ixl_spec.specs.StepSoFar.{along}
use Rattle.ixl_spec.specs.Step.{looking, told_before}
use Rattle.ixl_table.specs.Table.{SitedTable}
use Rattle.ixl_state.specs.inside.DetectorHeard.{Passes}
use Rattle.ixl_state.proofs.Looks.{all_before, for_some, looked_before, none_before, same_list}
use Rattle.ixl_state.proofs.datagrams_heard.look_before.Goals as goal

pub loop-own-init : goal.loop-own-init
loop-own-init c = none_before c.args.now c.args.occupied c.args.place c.args.state.now c.requires.clock

pub loop-own-preserved : goal.loop-own-preserved
loop-own-preserved c =
    let here : slice_get c.loop-own.state.sited.table.detectors c.args.place ≡ Some c.reported_by.result.now =
    subst (λ (p : SitedTable). slice_get p.table.detectors c.args.place ≡ Some c.reported_by.result.now) c.table-in-loop-own.ensures.sited c.reported_by.ensures
    in let first : slice_get c.args.state.now.sited.table.detectors c.args.place ≡ Some c.reported_by-own-end.result.now =
    subst (λ (p : SitedTable). slice_get p.table.detectors c.args.place ≡ Some c.reported_by-own-end.result.now) c.table.ensures.sited c.reported_by-own-end.ensures
    in let same : c.reported_by-own-end.result.now ≡ c.reported_by.result.now =
    same_list c.reported_by-own-end.result.now c.reported_by.result.now (slice_get c.args.state.now.sited.table.detectors c.args.place) first
    (subst (λ (p : SitedTable). slice_get p.table.detectors c.args.place ≡ Some c.reported_by.result.now) c.loop-own.invariant.sited here)
    in looked_before c.args.now c.args.occupied c.args.place c.loop-own.own _ c.args.state.now c.loop-own.state c.look.new.state c.reported_by.result.now c.contains.result c.loop-own.invariant here
    (omega (arith, c.loop-own-test.true, ap length same)) refl c.contains.ensures c.look.ensures

pub returns : goal.returns
returns c = for_some (λ sections. Passes c.args.now (along (looking c.args.state.now.sited.table) (told_before c.args.occupied 0 sections)) c.args.state.now c.loop-own.state)
    (slice_get c.args.state.now.sited.table.detectors c.args.place)
    (λ sections there.
    let first : slice_get c.args.state.now.sited.table.detectors c.args.place ≡ Some c.reported_by-own-end.result.now =
    subst (λ (p : SitedTable). slice_get p.table.detectors c.args.place ≡ Some c.reported_by-own-end.result.now) c.table.ensures.sited c.reported_by-own-end.ensures
    in let same : c.reported_by-own-end.result.now ≡ sections =
    same_list c.reported_by-own-end.result.now sections (slice_get c.args.state.now.sited.table.detectors c.args.place) first there
    in all_before c.args.now c.args.occupied c.args.place c.loop-own.own c.args.state.now c.loop-own.state sections c.loop-own.invariant there (omega (arith, c.loop-own-test.false, ap length same)))
