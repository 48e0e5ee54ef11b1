use Rattle.std.proofs.Common.{◌∙◌, ◌++◌, ap, refl}
use Rattle.std.specs.Prelude.{codes}
use Rattle.control_table.specs.Messages.{route_text}
use Rattle.station_layout.specs.DetailWords.{point_words}
use Rattle.control_table.specs.sci_telegram.Words.{side_word}
use Rattle.station_layout.specs.inside.Sentences.{part_words}
use Rattle.station_layout.proofs.SentenceEnds.{without_end}
use Rattle.station_layout.proofs.detail.PointDetail.sentence.Goals as goal
use Rattle.station_layout.proofs.detail.PointDetail.sentence.Goals.{in-OffPath, in-PointAt, in-OnPath, in-FlankAt, in-BothSides}

pub returns : goal.returns
unfolding point_words part_words
returns c = elim c.match-self.branch [
  | in-OffPath w ↦ rw w.name-is (rw w.in-OffPath.is refl)
  | in-PointAt w ↦
      rw w.name-is
      (rw w.in-PointAt.is
      (ap (λ wanted. route_text c.args.route ++ (codes " writes point " ++ (w.in-PointAt.name ++ (codes " " ++ (side_word w.in-PointAt.side ++ (codes " under `points`, and requires it " ++ wanted))))))
      (without_end (side_word w.other.result) ∙ ap side_word w.other.ensures)))
  | in-OnPath w ↦ rw w.name-is (rw w.in-OnPath.is refl)
  | in-FlankAt w ↦ rw w.name-is (rw w.in-FlankAt.is refl)
  | in-BothSides w ↦ rw w.name-is (rw w.in-BothSides.is refl)
]
