use Rattle.drawing.specs.Svg.{group_text}
use Rattle.drawing.proofs.Grown.{grown_by_all, grows}
use Rattle.drawing.proofs.written_picture.push_groups.Goals as goal

pub loop-group-preserved : goal.loop-group-preserved
loop-group-preserved c =
    grows group_text c.args.svg.now.items c.args.groups.now c.loop-group.group-index c.group-item.result c.loop-group.svg.items c.push_group.new.svg.items
    c.loop-group-test.true c.group-item.is c.loop-group.invariant c.in_ok-push_group.ensures

pub returns : goal.returns
returns c = grown_by_all group_text c.args.svg.now.items c.args.groups.now c.loop-group.group-index c.loop-group.svg.items c.loop-group-test.false c.loop-group.invariant
