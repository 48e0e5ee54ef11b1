use Rattle.station_plan.specs.Subjects.{signal_subject}
use Rattle.station_plan.specs.inside.Placing.{subjects_at}
use Rattle.station_plan.proofs.Grown.{grown, grows}
use Rattle.station_plan.proofs.placed.place_signals.Goals as goal

pub loop-number-preserved : goal.loop-number-preserved
loop-number-preserved c =
    grows (subjects_at c.args.placed.now.items) c.args.signals.now c.loop-number.number c.index-signals-number.result signal_subject (subjects_at c.loop-number.placed.items) (subjects_at c.place.new.placed.items)
    c.loop-number-test.true c.index-signals-number.is c.loop-number.invariant c.in_ok-place.ensures

pub returns : goal.returns
returns c = grown (subjects_at c.args.placed.now.items) c.args.signals.now c.loop-number.number (subjects_at c.loop-number.placed.items) signal_subject c.loop-number-test.false c.loop-number.invariant
