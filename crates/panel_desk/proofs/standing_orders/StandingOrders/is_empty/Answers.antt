use Rattle.std.proofs.Common.{◌≡◌, ◌∙◌, Bool, List, [], ap, sym}
use Rattle.std.specs.List.{list_any}
use Rattle.std.proofs.lemmas.Bool.{eqb-true}
use Rattle.std.proofs.lemmas.List.{nil_from_length}
use Rattle.panel_desk.specs.StandingOrders.{StandingView}
use Rattle.panel_desk.proofs.FlagRows.{idle}
use Rattle.panel_desk.proofs.standing_orders.StandingOrders.is_empty.Goals as goal

pub returns-then-is_empty : goal.returns-then-is_empty
returns-then-is_empty c =
    let none : c.self.inside.waiting.items ≡ [] = nil_from_length c.self.inside.waiting.items (sym c.self.inside.waiting.ok.0 ∙ eqb-true _ _ (sym c.is_empty.ensures ∙ c.if-is_empty.true)) in
    idle c.args.self.now c.is_any_set.result
    (c.is_any_set.ensures ∙ ap (λ (l : List Bool). list_any (λ flag. flag) l) (c.deref.ensures.value ∙ ap (λ (o : StandingView). o.automatic) c.self.view_is))
    (sym (ap (λ (o : StandingView). o.waiting) c.self.view_is) ∙ none)
