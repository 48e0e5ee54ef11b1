use Rattle.station_plan.specs.Subjects.{subjects_of}
use Rattle.station_plan.proofs.Grown.{grown, grows}
use Rattle.station_plan.proofs.thing_list.add_placed.Goals as goal

pub loop-one-preserved : goal.loop-one-preserved
loop-one-preserved c = (
  grows (subjects_of c.args.things.now.items) c.args.placed.now c.loop-one.one-index c.one-item.result (λ one. one.subject) (subjects_of c.loop-one.things.items) (subjects_of c.add.new.things.items)
      c.loop-one-test.true c.one-item.is c.loop-one.invariant.0 c.in_ok-add.ensures.listed,
  c.in_ok-add.ensures.drawn,
)

pub returns : goal.returns
returns c = record {
  listed = grown (subjects_of c.args.things.now.items) c.args.placed.now c.loop-one.one-index (subjects_of c.loop-one.things.items) (λ one. one.subject) c.loop-one-test.false c.loop-one.invariant.0;
  drawn = c.loop-one.invariant.1;
}
