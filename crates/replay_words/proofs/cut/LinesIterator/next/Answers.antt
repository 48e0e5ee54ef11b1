use Rattle.std.proofs.Common.{◌+◌, ◌<◌, ◌∷◌, length, sym, ◌∙◌, ap, refl, arith, false-eqb}
use Rattle.std.specs.List.{enumerate_from}
use Rattle.replay_words.specs.Cut.{lines}
use Rattle.replay_words.proofs.Cuts.{lines-split_once, progress}
use Rattle.replay_words.proofs.cut.LinesIterator.next.Goals as goal

-- what is left before the call begins with the line that is taken
pub returns-clause-steps : goal.returns-clause-steps
returns-clause-steps c =
    let nonempty : 0 < length c.self.inside.rest.now = omega (arith, false-eqb _ 0 c.if-is_empty.ensures) in
    let first = lines-split_once c.self.inside.rest.now c.split_once.result _ c.split_once.ensures.cases nonempty refl refl in
    sym c.self.view_is
    ∙ ap (enumerate_from (c.self.inside.taken + 1)) {y = c.unwrap_or.result.0.now ∷ lines c.unwrap_or.result.1.now} (rw c.unwrap_or.ensures first)

pub returns-clause-goes : goal.returns-clause-goes
returns-clause-goes c = progress _ _ _ _ _ (returns-clause-steps c) tt
