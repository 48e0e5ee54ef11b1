use Rattle.std.proofs.Common.{◌≡◌, ap, length, ◌∙◌, subst}
use Rattle.std.specs.Prelude.{◌↔◌, ℕ, IsTrue}
use Rattle.ixl_state.specs.bit_row.Places.{Has}
use Rattle.ixl_state.specs.release.Passage.{PassageState}
use Rattle.ixl_state.specs.ixl_spec.State.{RouteState}
use Rattle.ixl.proofs.RowLaws.{none_reached}
use Rattle.ixl.proofs.cancel_rule.was_none_seen.Goals as goal

pub returns : goal.returns
returns c row route kept =
    let same : c.passage.result ≡ route.passage = c.passage.ensures ∙ ap (λ (r : RouteState). r.passage) (c.route.ensures row route kept)
    in none_reached (length row.sections) route.passage c.is_reached.result
    (subst (λ (p : PassageState). IsTrue c.is_reached.result ↔ ((k : ℕ) × Has p.seen k)) same c.is_reached.ensures.value)
    (c.keeps_route.ensures.seen row route kept)
