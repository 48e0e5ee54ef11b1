use Rattle.std.proofs.Common.{◌≡◌, ◌∙◌, ◌++◌, [], ℕ, List, ap, sym}
use Rattle.std.specs.Fmt.{decimal}
use Rattle.std.specs.Prelude.{codes}
use Rattle.station_layout.specs.Advice.{entry_advice_words}
use Rattle.station_layout.specs.EntryWords.{common_words, place_words}
use Rattle.station_layout.specs.PortWords.{port_words}
use Rattle.station_layout.specs.inside.Sentences.{part_words}
use Rattle.station_layout.proofs.SentenceEnds.{around, without_end}
use Rattle.station_layout.proofs.advice.Common.sentence.Goals as goal
use Rattle.station_layout.proofs.advice.Common.sentence.Goals.{in-Name, in-Id, in-Section, in-Joint, in-Signal}

-- that a place has something, as the first one
as_first : (place begin part first : List ℕ)
    → place ++ (codes " " ++ (begin ++ (part ++ (codes ", as " ++ (first ++ []))))) ≡ place ++ (codes " " ++ ((begin ++ (part ++ codes ", as")) ++ (codes " " ++ first)))
as_first place begin part first =
    ap (λ last. place ++ (codes " " ++ (begin ++ (part ++ (codes ", as " ++ last))))) (without_end first)
    ∙ sym (ap (λ words. place ++ (codes " " ++ words)) (around begin part (codes ", as") (codes " " ++ first)))

pub returns : goal.returns
unfolding entry_advice_words common_words part_words
returns c =
    let place = place_words c.args.place in
    let first = place_words c.args.first in
    elim c.match-self.branch [
      | in-Name w ↦ rw w.part-is (rw w.in-Name.is (as_first place (codes "has the name ") w.in-Name.name first))
      | in-Id w ↦ rw w.part-is (rw w.in-Id.is (as_first place (codes "has the id ") (decimal w.in-Id.id) first))
      | in-Section w ↦ rw w.part-is (rw w.in-Section.is (as_first place (codes "reports the section ") w.in-Section.section first))
      | in-Joint w ↦ rw w.part-is (rw w.in-Joint.is (as_first place (codes "joins ") (port_words w.in-Joint.port) first))
      | in-Signal w ↦ rw w.part-is (rw w.in-Signal.is (as_first place (codes "stands at ") (port_words w.in-Signal.port) first))
    ]
