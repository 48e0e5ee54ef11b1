use Rattle.std.proofs.Common.{◌∙◌, ◌++◌, [], ap}
use Rattle.std.specs.Prelude.{codes}
use Rattle.station_layout.specs.Advice.{entry_advice_words}
use Rattle.station_layout.specs.EntryWords.{spot_words}
use Rattle.station_layout.specs.FieldKeys.{kind_words}
use Rattle.station_layout.specs.inside.Sentences.{part_words}
use Rattle.station_layout.proofs.SentenceEnds.{without_end}
use Rattle.station_layout.proofs.advice.EntryAdvice.sentence.Goals as goal

pub returns-in-Wrong : goal.returns-in-Wrong
unfolding entry_advice_words part_words
returns-in-Wrong c =
    let at = spot_words c.in-Wrong.at in
    rw c.in-Wrong.is
    (ap (λ kind. at ++ (codes " is " ++ (kind ++ (codes ", and has to be " ++ (c.form.result.now ++ []))))) c.part.ensures
    ∙ ap (λ form. at ++ (codes " is " ++ (kind_words c.in-Wrong.kind ++ (codes ", and has to be " ++ form)))) (without_end c.form.result.now ∙ c.form.ensures))
