-- A whole step from its parts, of which nothing is known here but how they follow one another.
use Rattle.std.proofs.Common.{◌≡◌, List, ap, ◌∙◌}
use Rattle.line_laws.specs.declared.words.Side.{Side}
use Rattle.line_laws.specs.declared.words.Item.{Item}
use Rattle.line_laws.specs.End.{End}
use Rattle.line_laws.specs.Step.{StepSoFar}
use Rattle.line_end.specs.State.{EndState, so_far}

-- the lock is looked at, then the contacts, then the rules are gone through, and the lock is looked at again
pub parts_follow : (lock note : End → End) (between : EndState → StepSoFar) (old locked noticed stepped new : EndState) (given : List Item)
    → locked ≡ record old { end = lock old.end }
    → noticed ≡ record locked { end = note locked.end }
    → so_far stepped given ≡ between noticed
    → stepped.side ≡ noticed.side
    → new ≡ record stepped { end = lock stepped.end }
    → (new ≡ record old { end = lock (between (record old { end = note (lock old.end) })).end }) × (given ≡ (between (record old { end = note (lock old.end) })).given)
parts_follow lock note between old locked noticed stepped new given first second third side last =
    let before : noticed ≡ record old { end = note (lock old.end) } = second ∙ ap (λ (state : EndState). record state { end = note state.end }) first
    in let so : so_far stepped given ≡ between (record old { end = note (lock old.end) }) = third ∙ ap between before
    in let at : stepped.side ≡ old.side = side ∙ ap (λ (state : EndState). state.side) before
    in (
      last
          ∙ (ap (λ (side : Side). record { side = side; end = lock stepped.end }) at
          ∙ ap (λ (step : StepSoFar). record { side = old.side; end = lock step.end }) so),
      ap (λ (step : StepSoFar). step.given) so,
    )
