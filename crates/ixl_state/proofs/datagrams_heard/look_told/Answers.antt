use Rattle.std.proofs.Common.{◌<◌, ◌∙◌, Bool, length, ap, sym, subst}
use Rattle.std.specs.Prelude.{IfSome, slice_get}
use Rattle.ixl_spec.specs.StepSoFar.{along}
use Rattle.ixl_spec.specs.Step.{looking, told_before, told_now}
use Rattle.ixl_table.specs.Table.{SitedTable}
use Rattle.ixl_state.specs.inside.DetectorHeard.{Passes, told_since}
use Rattle.ixl_state.proofs.Looks.{at_list, both_looked, for_some, told_site}
use Rattle.ixl_state.proofs.datagrams_heard.look_told.Goals as goal

pub look_now-requires-else-was_ready-clause-there : goal.look_now-requires-else-was_ready-clause-there
look_now-requires-else-was_ready-clause-there c = subst (λ (p : SitedTable). c.args.place < length p.table.detectors)
    (sym (told_site c.args.now (λ sections. along (looking c.args.state.now.sited.table) (told_before c.args.occupied 0 sections)) c.args.place c.args.state.now c.look_before.new.state c.requires.there c.look_before.ensures).0) c.requires.there

pub look_now-requires-else-was_ready-clause-clock : goal.look_now-requires-else-was_ready-clause-clock
look_now-requires-else-was_ready-clause-clock c =
    (told_site c.args.now (λ sections. along (looking c.args.state.now.sited.table) (told_before c.args.occupied 0 sections)) c.args.place c.args.state.now c.look_before.new.state c.requires.there c.look_before.ensures).1

pub returns-then-was_ready : goal.returns-then-was_ready
returns-then-was_ready c = subst (λ (b : Bool). IfSome (slice_get c.args.state.now.sited.table.detectors c.args.place)
    (λ sections. Passes c.args.now (along (looking c.args.state.now.sited.table) (told_since b c.args.occupied sections c.args.heard.now)) c.args.state.now c.look_now.new.state))
    (sym c.if-was_ready.true) c.look_now.ensures

pub returns-else-was_ready : goal.returns-else-was_ready
returns-else-was_ready c = subst (λ (b : Bool). IfSome (slice_get c.args.state.now.sited.table.detectors c.args.place)
    (λ sections. Passes c.args.now (along (looking c.args.state.now.sited.table) (told_since b c.args.occupied sections c.args.heard.now)) c.args.state.now c.look_now-else-was_ready.new.state))
    (sym c.if-was_ready.false)
    (for_some _ (slice_get c.args.state.now.sited.table.detectors c.args.place) (λ sections there.
    let site = told_site c.args.now (λ list. along (looking c.args.state.now.sited.table) (told_before c.args.occupied 0 list)) c.args.place c.args.state.now c.look_before.new.state c.requires.there c.look_before.ensures
    in both_looked c.args.now c.args.place c.args.occupied sections c.args.heard.now c.args.state.now c.look_before.new.state c.look_now-else-was_ready.new.state
    (at_list (λ list. Passes c.args.now (along (looking c.args.state.now.sited.table) (told_before c.args.occupied 0 list)) c.args.state.now c.look_before.new.state)
    (slice_get c.args.state.now.sited.table.detectors c.args.place) sections there c.look_before.ensures)
    (at_list (λ list. Passes c.args.now (along (looking c.look_before.new.state.sited.table) (told_now list c.args.heard.now)) c.look_before.new.state c.look_now-else-was_ready.new.state)
    (slice_get c.look_before.new.state.sited.table.detectors c.args.place) sections (ap (λ (p : SitedTable). slice_get p.table.detectors c.args.place) site.0 ∙ there) c.look_now-else-was_ready.ensures)))
