-- A panel that does nothing by itself tries nothing.
use Rattle.std.proofs.Common.{◌≡◌, ℕ, zero, suc, Bool, true, false, List, [], length, replicate, refl, sym, ap, subst}
use Rattle.panel_desk.specs.StandingOrders.{EachTried, StandingView, Tried, TriedIf, begun_from, ends, is_apart_in, is_shut_in, none_standing}
use Rattle.panel_desk.specs.declared.panel_line.PanelLine.{PanelLine}
use Rattle.panel_desk.specs.declared.standing_orders.Waiting.{Waiting}
use Rattle.panel_desk.specs.node_lines.layout.Entries.{Site}

none_begins : (lines : List PanelLine) (place flags : ℕ) → begun_from lines place (replicate flags false) [] ≡ []
none_begins lines place zero = refl
none_begins lines place (suc flags) = none_begins lines (suc place) flags

as_many : (flags : ℕ) → length (replicate flags false) ≡ flags
as_many zero = refl
as_many (suc flags) = ap suc (as_many flags)

none_tried : (site : Site) (lines : List PanelLine) (now flags : ℕ) (shut apart : Bool) → TriedIf shut apart site lines now (none_standing flags) [] (none_standing flags)
none_tried site lines now flags true apart = (refl, ap none_standing (sym (as_many flags)))
none_tried site lines now flags false true = (refl, refl)
none_tried site lines now flags false false =
    ([], subst (λ (w : List Waiting). EachTried site lines now [] w [] []) (sym (none_begins lines 0 flags)) ends, refl)

pub nothing_tried : (site : Site) (lines : List PanelLine) (now : ℕ) (orders : StandingView) → orders ≡ none_standing (length orders.automatic) → Tried site lines now orders [] orders
nothing_tried site lines now orders is =
    subst (λ (o : StandingView). Tried site lines now o [] o) (sym is) (none_tried site lines now (length orders.automatic) (is_shut_in lines) (is_apart_in lines))
