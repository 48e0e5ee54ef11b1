use Rattle.std.proofs.Common.{◌∙◌}
use Rattle.station_layout.proofs.WordLists.{among}
use Rattle.station_layout.proofs.value_forms.is_among.Goals as goal

pub returns : goal.returns
returns c = c.contains.ensures.value ∙ among c.args.words.now c.args.word.now
