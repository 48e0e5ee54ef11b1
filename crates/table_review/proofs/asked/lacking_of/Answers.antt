use Rattle.std.proofs.Common.{◌∙◌, ap, subst, sym, Ok}
use Rattle.std.specs.List.{All}
use Rattle.route_derivation.specs.Approach.{IsApproach}
use Rattle.route_derivation.specs.Derived.{HasDerivedAspect}
use Rattle.route_derivation.specs.Lacking.{AreLacking}
use Rattle.route_derivation.specs.control_table.layout.Station.{HasSignal}
use Rattle.table_review.proofs.asked.lacking_of.Goals as goal

pub returns : goal.returns
returns c =
    let l = c.in_ok-table.table in
    let rs = c.in_ok-routes.routes.items in
    record {
      read = c.in_ok-layout.ensures ∙ ap Ok (sym c.in_ok-table.ensures.kept);
      sound = c.layout-2.ensures.sound;
      entries = c.in_ok-entries.entries.items;
      every = λ none s has. c.in_ok-entries.ensures none s (subst (λ m. HasSignal m s) (sym c.layout-2.ensures.entries) has);
      lacking = subst (λ es. AreLacking l es rs) c.deref.ensures.value (subst (λ m. AreLacking m c.deref.result.now rs) c.layout-3.ensures.entries c.in_ok-routes.ensures.lacking);
      marks = c.in_ok-slow.slow.items;
      marked = c.in_ok-slow.ensures;
      aspects = subst (λ ms. All (HasDerivedAspect ms) rs) c.deref-2.ensures.value c.in_ok-routes.ensures.aspects;
      approaches = subst (λ m. All (λ r. IsApproach m c.args.asked.now.rule r.entry r.approach) rs) c.layout-3.ensures.entries c.in_ok-routes.ensures.approaches;
    }
