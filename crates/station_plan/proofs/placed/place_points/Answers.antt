use Rattle.std.proofs.Common.{◌≡◌, ◌∙◌, [], ◌∷◌, ◌++◌, ap, append_assoc}
use Rattle.station_plan.specs.Subjects.{point_subjects, tip_subject}
use Rattle.station_plan.specs.declared.thing.Subject.TheVariants as subject
use Rattle.station_plan.specs.inside.Placing.{subjects_at}
use Rattle.station_plan.proofs.Grown.{grown_by_all, grows_by_all}
use Rattle.station_plan.proofs.placed.place_points.Goals as goal

pub loop-number-preserved : goal.loop-number-preserved
loop-number-preserved c =
    let point = c.index-points-number.result in
    let before = subjects_at c.loop-number.placed.items in
    let tip = c.in_ok-place-2.ensures ∙ ap (λ placed. placed ++ tip_subject point.name ∷ []) c.in_ok-place.ensures in
    let left = c.in_ok-place-3.ensures ∙ ap (λ placed. placed ++ subject.Left point.name ∷ []) tip in
    let more : subjects_at c.place-in-loop-number-3.new.placed.items ≡ before ++ point_subjects point =
    c.in_ok-place-4.ensures ∙ (ap (λ placed. placed ++ subject.Right point.name ∷ []) left ∙ simp append_assoc) in
    grows_by_all (subjects_at c.args.placed.now.items) c.args.points.now c.loop-number.number point point_subjects before _
    c.loop-number-test.true c.index-points-number.is c.loop-number.invariant more

pub returns : goal.returns
returns c = grown_by_all (subjects_at c.args.placed.now.items) c.args.points.now c.loop-number.number (subjects_at c.loop-number.placed.items) point_subjects c.loop-number-test.false c.loop-number.invariant
