use Rattle.std.proofs.Common.{refl}
use Rattle.station_layout.specs.Advice.{entry_advice_words}
use Rattle.station_layout.specs.EntryWords.{missed_words}
use Rattle.station_layout.specs.inside.Sentences.{part_words}
use Rattle.station_layout.proofs.advice.Missed.sentence.Goals as goal
use Rattle.station_layout.proofs.advice.Missed.sentence.Goals.{in-Section, in-Port, in-Point, in-Signal, in-Exit, in-Route, in-Unreported}

pub returns : goal.returns
unfolding entry_advice_words missed_words part_words
returns c = elim c.match-self.branch [
  | in-Section w ↦ rw w.part-is (rw w.in-Section.is refl)
  | in-Port w ↦ rw w.part-is (rw w.in-Port.is refl)
  | in-Point w ↦ rw w.part-is (rw w.in-Point.is refl)
  | in-Signal w ↦ rw w.part-is (rw w.in-Signal.is refl)
  | in-Exit w ↦ rw w.part-is (rw w.in-Exit.is refl)
  | in-Route w ↦ rw w.part-is (rw w.in-Route.is refl)
  | in-Unreported w ↦ rw w.part-is (rw w.in-Unreported.is refl)
]
