-- Cancels, one after another.
use Rattle.std.proofs.Common.{◌≡◌, ◌∙◌, ◌+◌, ◌-◌, ◌<◌, ◌≤◌, ℕ, suc, sym, ap, List, [], ◌∷◌, ◌++◌, arith}
use Rattle.std.proofs.lemmas.List.{append_assoc, append-nil}
use Rattle.panel_desk.specs.node_lines.ixl_spec.declared.command.Command.TheVariants.{Cancel}
use Rattle.panel_desk.specs.node_lines.simulator_event.declared.event.Event.{Event}
use Rattle.panel_desk.specs.node_lines.simulator_event.declared.event.Event.TheVariants.{Request}
use Rattle.station_panel.specs.Asked.{cancels}

abbrev pub cancel_of : ℕ → Event
cancel_of place = Request (Cancel (record { 0 = place }))

cancels_next : (place all : ℕ) → place < all → cancels place (all - place) ≡ cancel_of place ∷ cancels (place + 1) (all - (place + 1))
cancels_next place all below =
    let here : all - place ≡ suc (all - (place + 1)) = omega (arith, below) in
    let next : suc place ≡ place + 1 = omega arith in
    ap (cancels place) here ∙ ap (λ p. cancel_of place ∷ cancels p (all - (place + 1))) next

-- one more was added
pub one_added : (place all : ℕ) (so_far new wanted : List Event) → place < all → new ≡ so_far ++ cancel_of place ∷ [] → so_far ++ cancels place (all - place) ≡ wanted
    → new ++ cancels (place + 1) (all - (place + 1)) ≡ wanted
one_added place all so_far new wanted below new_is before =
    let rest = cancels (place + 1) (all - (place + 1)) in
    ap (λ l. l ++ rest) new_is
    ∙ append_assoc so_far (cancel_of place ∷ []) rest
    ∙ ap (λ l. so_far ++ l) (sym (cancels_next place all below))
    ∙ before

pub all_added : (place all : ℕ) (so_far wanted : List Event) → all ≤ place → so_far ++ cancels place (all - place) ≡ wanted → so_far ≡ wanted
all_added place all so_far wanted above before =
    let done : all - place ≡ 0 = omega (arith, above) in
    sym (append-nil so_far) ∙ ap (λ l. so_far ++ l) (sym (ap (cancels place) done)) ∙ before
