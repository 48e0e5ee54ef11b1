use Rattle.std.proofs.lemmas.List.{get_or_default}
use Rattle.drawing.specs.Svg.{strip_text}
use Rattle.drawing.proofs.Grown.{grown_by_all, grows}
use Rattle.drawing.proofs.written_picture.push_strips.Goals as goal

pub loop-strip-preserved : goal.loop-strip-preserved
loop-strip-preserved c =
    grows strip_text c.args.svg.now.items c.args.strips.now c.loop-strip.strip-index _ c.loop-strip.svg.items c.push_strip.new.svg.items
    c.loop-strip-test.true (get_or_default c.args.strips.now c.loop-strip.strip-index _ _ c.loop-strip-test.true) c.loop-strip.invariant c.in_ok-push_strip.ensures

pub returns : goal.returns
returns c = grown_by_all strip_text c.args.svg.now.items c.args.strips.now c.loop-strip.strip-index c.loop-strip.svg.items c.loop-strip-test.false c.loop-strip.invariant
