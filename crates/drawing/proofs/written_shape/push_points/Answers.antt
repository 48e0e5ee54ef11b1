use Rattle.std.proofs.Common.{◌≡◌, ◌∙◌, ◌++◌, ap, append_assoc, arith}
use Rattle.std.proofs.lemmas.List.{get_or_default}
use Rattle.std.specs.Prelude.{codes}
use Rattle.drawing.specs.Svg.{points_rest, spot_text}
use Rattle.drawing.proofs.Grown.{grown_by_all, grows}
use Rattle.drawing.proofs.written_shape.push_points.Goals as goal

pub loop-spot-preserved : goal.loop-spot-preserved
loop-spot-preserved c =
    let more = c.in_ok-push_text.ensures _ c.format-text.ensures.ok in
    grows spot_text (c.args.svg.now.items ++ codes "\" points=\"") c.args.spots.now c.loop-spot.spot-index _ c.loop-spot.svg.items _
    c.loop-spot-test.true (get_or_default c.args.spots.now c.loop-spot.spot-index _ _ c.loop-spot-test.true) c.loop-spot.invariant more

pub returns : goal.returns
returns c =
    let old = c.args.svg.now.items in
    let spots = c.args.spots.now in
    let drawn = grown_by_all spot_text (old ++ codes "\" points=\"") spots c.loop-spot.spot-index c.loop-spot.svg.items c.loop-spot-test.false c.loop-spot.invariant in
    let all : c.loop-spot.svg.items ++ codes "\"/>\n" ≡ old ++ points_rest spots = ap (λ text. text ++ codes "\"/>\n") drawn ∙ simp append_assoc in
    grind (arith, all)
