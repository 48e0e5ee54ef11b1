use Rattle.std.proofs.Common.{◌<◌, List, [], ◌∷◌, ℕ, length, get_or, refl, sym, subst, arith}
use Rattle.std.specs.Prelude.{slice_get}
use Rattle.ixl_spec.specs.sci_telegram.declared.message.Aspect.TheVariants as aspects
use Rattle.ixl_spec.specs.ixl_client.declared.indication.Indication.{Indication}
use Rattle.ixl_spec.specs.ixl_client.declared.indication.ObjectState.TheVariants as states
use Rattle.ixl_table.specs.Table.{SitedTable}
use Rattle.ixl_spec.specs.StepSoFar.{along}
use Rattle.ixl_spec.specs.Step.{looking, told_now}
use Rattle.ixl_state.specs.inside.DetectorHeard.{Passes}
use Rattle.ixl_state.proofs.Looks.{all_now, at_list, for_some, looked_now, none_now, told_site}
use Rattle.ixl_state.proofs.datagrams_heard.look_now.Goals as goal

abbrev told_at : List Indication → ℕ → Indication
told_at heard place = get_or heard place (record { place = 0; state = states.Aspect aspects.Stop })

pub loop-told-init : goal.loop-told-init
loop-told-init c = none_now c.args.now c.args.heard.now c.args.place c.args.state.now c.requires.clock

pub loop-told-preserved : goal.loop-told-preserved
loop-told-preserved c =
    let there : c.args.place < length c.loop-told.state.sited.table.detectors =
    subst (λ (p : SitedTable). c.args.place < length p.table.detectors) (sym c.loop-told.invariant.sited) c.requires.there
    in let site = told_site c.args.now (λ sections. along (looking c.loop-told.state.sited.table) (told_now sections (told_at c.args.heard.now c.loop-told.told-index ∷ []))) c.args.place c.loop-told.state c.look_at.new.state there c.look_at.ensures
    in looked_now c.args.now c.args.heard.now c.args.place c.loop-told.told-index (told_at c.args.heard.now c.loop-told.told-index) _ c.args.state.now c.loop-told.state c.look_at.new.state
    c.loop-told.invariant (omega (arith, c.loop-told-test.true)) refl
    (λ sections has. at_list (λ list. Passes c.args.now (along (looking c.loop-told.state.sited.table) (told_now list (told_at c.args.heard.now c.loop-told.told-index ∷ []))) c.loop-told.state c.look_at.new.state)
    (slice_get c.loop-told.state.sited.table.detectors c.args.place) sections has c.look_at.ensures)
    site.0 site.1

pub returns : goal.returns
returns c = for_some (λ sections. Passes c.args.now (along (looking c.args.state.now.sited.table) (told_now sections c.args.heard.now)) c.args.state.now c.loop-told.state)
    (slice_get c.args.state.now.sited.table.detectors c.args.place)
    (λ sections there. all_now c.args.now c.args.heard.now c.args.place c.loop-told.told-index c.args.state.now c.loop-told.state sections c.loop-told.invariant there (omega (arith, c.loop-told-test.false)))
