use Rattle.std.proofs.Common.{◌∙◌, [], ◌∷◌, ◌++◌, ap}
use Rattle.station_plan.specs.Subjects.{detector_subject, subjects_of}
use Rattle.station_plan.specs.declared.thing.Subject.TheVariants as subject
use Rattle.station_plan.proofs.Grown.{grown, grows}
use Rattle.station_plan.proofs.thing_list.add_detectors.Goals as goal

pub loop-number-preserved : goal.loop-number-preserved
loop-number-preserved c = (
  grows (subjects_of c.args.things.now.items) c.args.detectors.now c.loop-number.number c.index-detectors-number.result detector_subject (subjects_of c.loop-number.things.items) (subjects_of c.add-in-loop-number.new.things.items)
      c.loop-number-test.true c.index-detectors-number.is c.loop-number.invariant.0
      (c.in_ok-add.ensures.listed ∙ ap (λ n. subjects_of c.loop-number.things.items ++ subject.Detector n ∷ []) c.name.ensures),
  c.in_ok-add.ensures.drawn,
)

pub returns : goal.returns
returns c = record {
  listed = grown (subjects_of c.args.things.now.items) c.args.detectors.now c.loop-number.number (subjects_of c.loop-number.things.items) detector_subject c.loop-number-test.false c.loop-number.invariant.0;
  drawn = c.loop-number.invariant.1;
}
