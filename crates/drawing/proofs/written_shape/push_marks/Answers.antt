use Rattle.std.proofs.Common.{◌≡◌, ◌∙◌, ◌++◌, ap, append_assoc}
use Rattle.std.specs.Prelude.{string_bytes}
use Rattle.drawing.specs.Escaped.{escaped}
use Rattle.drawing.specs.Svg.{mark_text, shape_rest}
use Rattle.drawing.proofs.Grown.{grown_by_all, grows}
use Rattle.drawing.proofs.written_shape.push_marks.Goals as goal

pub loop-mark-preserved : goal.loop-mark-preserved
loop-mark-preserved c =
    let mark = c.mark-item.result in
    let before = c.loop-mark.svg.items in
    let opened = c.in_ok-extend_from_slice.ensures.items ∙ ap (λ text. before ++ text) c.opening.ensures in
    let classed = c.in_ok-push_escaped.ensures ∙ (ap (λ words. c.extend_from_slice.new.self.items ++ escaped words) c.as_str.ensures.value
    ∙ ap (λ text. text ++ escaped (string_bytes mark.class)) opened) in
    let more : c.push_rest.new.svg.items ≡ before ++ mark_text mark =
    c.in_ok-push_rest.ensures ∙ (ap (λ text. text ++ shape_rest mark.shape) classed ∙ simp append_assoc) in
    grows mark_text c.args.svg.now.items c.args.marks.now c.loop-mark.mark-index mark before c.push_rest.new.svg.items
    c.loop-mark-test.true c.mark-item.is c.loop-mark.invariant more

pub returns : goal.returns
returns c = grown_by_all mark_text c.args.svg.now.items c.args.marks.now c.loop-mark.mark-index c.loop-mark.svg.items c.loop-mark-test.false c.loop-mark.invariant
