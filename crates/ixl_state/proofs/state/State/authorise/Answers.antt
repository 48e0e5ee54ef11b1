use Rattle.std.proofs.Common.{◌≡◌, ◌∙◌, [], ℕ, length, not, ap, refl, sym}
use Rattle.std.specs.FinSet.{contains-empty}
use Rattle.std.specs.Ordering.{nat_cmp}
use Rattle.std.proofs.lemmas.Bool.{false≢true}
use Rattle.std.proofs.lemmas.Option.{same_Some}
use Rattle.release.specs.Passage.{passage_after}
use Rattle.ixl_spec.specs.State.{RouteState}
use Rattle.ixl_spec.specs.Table.{Row}
use Rattle.ixl_spec.specs.declared.phase.Phase.TheVariants as phase
use Rattle.ixl_state.specs.inside.Kept.{IsPassageOf}
use Rattle.ixl_state.proofs.RouteChange.{alike-by, alike-from, passage-by}
use Rattle.ixl_state.proofs.state.State.authorise.Goals as goal

none-seen : (row : Row) (n : ℕ) → n ≡ length row.sections → IsPassageOf row (passage_after n [])
unfolding passage_after
none-seen row n same = record { sections = same; within = λ place h. absurd (false≢true (sym (contains-empty nat_cmp place) ∙ h)) }

pub keep-requires-clause-alike : goal.keep-requires-clause-alike
keep-requires-clause-alike c = λ row old at.
    let change : RouteState → RouteState = λ r. record r { phase = phase.Proceeding; passage = passage_after r.passage.sections []; approached = not c.args.is_approach_clear } in
    alike-by old c.authorised-route.result change (c.authorised-route.ensures ∙ ap change (c.route.ensures row old at))
    (alike-from old.phase phase.Waiting phase.Proceeding (c.requires.waiting row old at) (record { set = refl; freed = refl }))

pub keep-requires-clause-passage : goal.keep-requires-clause-passage
keep-requires-clause-passage c = λ row old at is.
    let change : RouteState → RouteState = λ r. record r { phase = phase.Proceeding; passage = passage_after r.passage.sections []; approached = not c.args.is_approach_clear } in
    passage-by row old c.authorised-route.result change (c.authorised-route.ensures ∙ ap change (c.route.ensures row old at)) (none-seen row old.passage.sections is.sections)

pub returns : goal.returns
returns c = λ row route at.
    let change : RouteState → RouteState = λ r. record r { phase = phase.Proceeding; passage = passage_after r.passage.sections []; approached = not c.args.is_approach_clear } in
    c.keep.ensures (λ old. record old { phase = phase.Proceeding; passage = passage_after (length row.sections) []; approached = not c.args.is_approach_clear })
    (λ other old its.
    let long : old.passage.sections ≡ length row.sections = c.keeps_route.ensures.sections other old its ∙ ap (λ (r : Row). length r.sections) (same_Some other row (sym its.0 ∙ at.0)) in
    c.authorised-route.ensures ∙ ap change (c.route.ensures other old its)
    ∙ ap (λ (n : ℕ). record old { phase = phase.Proceeding; passage = passage_after n []; approached = not c.args.is_approach_clear }) long)
