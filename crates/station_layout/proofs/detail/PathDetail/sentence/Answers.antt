use Rattle.std.proofs.Common.{◌++◌, ap, refl}
use Rattle.std.specs.Prelude.{codes}
use Rattle.control_table.specs.Messages.{route_text}
use Rattle.station_layout.specs.DetailWords.{path_words}
use Rattle.station_layout.specs.PortWords.{port_words}
use Rattle.station_layout.specs.inside.Sentences.{part_words}
use Rattle.station_layout.proofs.SentenceEnds.{without_end}
use Rattle.station_layout.proofs.detail.PathDetail.sentence.Goals as goal
use Rattle.station_layout.proofs.detail.PathDetail.sentence.Goals.{in-Empty, in-DeadEnd, in-Twice, in-ComesBack, in-OpenLeg, in-EndsElsewhere, in-EndsAtEntry, in-InTheWay}

pub returns-in-Astray : goal.returns-in-Astray
unfolding path_words part_words
returns-in-Astray c =
    let before = port_words c.in-Astray.before in
    let entered = port_words c.in-Astray.entered in
    rw c.in-Astray.is
    (ap (λ left. codes "the path of " ++ (route_text c.args.route ++ (codes " breaks at " ++ (before ++ (codes ": it is joined to " ++ (entered ++ (codes ", from where no train leaves by " ++ left)))))))
    (without_end (port_words c.in-Astray.left)))

pub returns : goal.returns
unfolding path_words part_words
returns c = elim c.match-self.branch [
  | in-Empty w ↦ rw w.first-is (rw w.in-Empty.is refl)
  | in-DeadEnd w ↦ rw w.first-is (rw w.in-DeadEnd.is refl)
  | in-Twice w ↦ rw w.first-is (rw w.in-Twice.is refl)
  | in-ComesBack w ↦ rw w.first-is (rw w.in-ComesBack.is refl)
  | in-OpenLeg w ↦ rw w.first-is (rw w.in-OpenLeg.is refl)
  | in-EndsElsewhere w ↦ rw w.first-is (rw w.in-EndsElsewhere.is refl)
  | in-EndsAtEntry w ↦ rw w.first-is (rw w.in-EndsAtEntry.is refl)
  | in-InTheWay w ↦ rw w.first-is (rw w.in-InTheWay.is refl)
]
