use Rattle.std.proofs.Common.{◌≡◌, List, ℕ, [], ◌∷◌, Some, length, ap, subst, arith}
use Rattle.std.specs.Prelude.{slice_get, slice_index_or}
use Rattle.std.proofs.lemmas.Option.{slice_get_past}
use Rattle.ixl_spec.specs.StepSoFar.{along}
use Rattle.ixl_spec.specs.Step.{looking, told_now}
use Rattle.ixl_table.specs.Table.{SitedTable}
use Rattle.ixl_state.specs.inside.DetectorHeard.{Passes}
use Rattle.ixl_state.proofs.Looks.{for_some, none_looked, one_looked, same_list}
use Rattle.ixl_state.proofs.Looks.{get_within}
use Rattle.ixl_state.proofs.datagrams_heard.look_at.Goals as goal

pub returns-then-told-sections : goal.returns-then-told-sections
returns-then-told-sections c = for_some (λ sections. Passes c.args.now (along (looking c.args.state.now.sited.table) (told_now sections (c.args.told ∷ []))) c.args.state.now c.look.new.state)
    (slice_get c.args.state.now.sited.table.detectors c.args.place)
    (λ sections there.
    let first : slice_get c.args.state.now.sited.table.detectors c.args.place ≡ Some c.reported_by-sections.result.now =
    subst (λ (p : SitedTable). slice_get p.table.detectors c.args.place ≡ Some c.reported_by-sections.result.now) c.table.ensures.sited c.reported_by-sections.ensures
    in let same : c.reported_by-sections.result.now ≡ sections =
    same_list c.reported_by-sections.result.now sections (slice_get c.args.state.now.sited.table.detectors c.args.place) first there
    in one_looked c.args.now c.args.place c.args.told sections (slice_index_or c.reported_by-sections.result.now c.args.told.place 0) c.is_told_occupied.result c.args.state.now c.look.new.state
    (subst (λ (list : List ℕ). slice_get list c.args.told.place ≡ Some (slice_index_or c.reported_by-sections.result.now c.args.told.place 0)) same (get_within c.reported_by-sections.result.now c.args.told.place 0 c.if-told-sections.true)) c.is_told_occupied.ensures c.look.ensures)

pub returns-else-told-sections : goal.returns-else-told-sections
returns-else-told-sections c = for_some (λ sections. Passes c.args.now (along (looking c.args.state.now.sited.table) (told_now sections (c.args.told ∷ []))) c.args.state.now c.args.state.now)
    (slice_get c.args.state.now.sited.table.detectors c.args.place)
    (λ sections there.
    let first : slice_get c.args.state.now.sited.table.detectors c.args.place ≡ Some c.reported_by-sections.result.now =
    subst (λ (p : SitedTable). slice_get p.table.detectors c.args.place ≡ Some c.reported_by-sections.result.now) c.table.ensures.sited c.reported_by-sections.ensures
    in let same : c.reported_by-sections.result.now ≡ sections =
    same_list c.reported_by-sections.result.now sections (slice_get c.args.state.now.sited.table.detectors c.args.place) first there
    in none_looked c.args.now c.args.told sections c.args.state.now (slice_get_past sections c.args.told.place (omega (arith, c.if-told-sections.false, ap length same))) c.requires.clock)
