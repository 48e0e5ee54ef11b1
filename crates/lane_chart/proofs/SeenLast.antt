-- The open span shows what was seen last.
use Rattle.std.proofs.Common.{◌≡◌, ◌∙◌, ℕ, nat_le, ◌==◌, Bool, true, false, if◌then◌else◌, List, [], ◌∷◌, Option, Some, None, refl, ap, sym}
use Rattle.std.proofs.lemmas.Bool.{eqb-true}
use Rattle.lane_chart.specs.Shown.{seen_from, shown_from}
use Rattle.lane_chart.specs.Spans.{begun, ended, joined, spans_behind, unit_of}
use Rattle.lane_chart.specs.declared.change.Change.{Change}
use Rattle.lane_chart.specs.declared.lane.Seen.{Seen}
use Rattle.lane_chart.specs.declared.scale.Window.{Window}
use Rattle.lane_chart.specs.declared.spans.Span.{Span}

-- what is shown by then, if it has begun
abbrev by_then : ℕ → ℕ → Seen → Option Seen → Option Seen
by_then unit begins seen before = if nat_le begins unit then Some seen else before

-- of two that begin at once the second is shown
second : (b : Bool) (seen other : Seen) (before : Option Seen) → (if b then Some seen else before) ≡ (if b then Some seen else (if b then Some other else before))
second true seen other before = refl
second false seen other before = refl

pub from_open : (window : Window) (unit : ℕ) (before : Option Seen) (last : Span) (changes : List Change)
    → shown_from unit before (spans_behind window (Some last) changes) ≡ seen_from window unit (by_then unit last.left last.seen before) changes
unfolding shown_from seen_from spans_behind
from_open window unit before last [] = refl
from_open window unit before last (change ∷ later) =
    by_unit (λ shown now. from_open window unit shown now later) (unit_of window change.time == last.left) refl
  where
    wanted : Option Seen
    wanted = seen_from window unit (by_then unit (unit_of window change.time) change.seen (by_then unit last.left last.seen before)) later

    next : Bool → List Span
    next same =
        if same then spans_behind window (Some (joined change last)) later
        else ended (unit_of window change.time) last ∷ spans_behind window (Some (begun window change)) later

    by_unit : ((shown : Option Seen) (now : Span) → shown_from unit shown (spans_behind window (Some now) later) ≡ seen_from window unit (by_then unit now.left now.seen shown) later)
        → (same : Bool) → (unit_of window change.time == last.left) ≡ same → shown_from unit before (next same) ≡ wanted
    by_unit again true is =
        again before (joined change last)
        ∙ ap (λ (shown : Option Seen). seen_from window unit shown later)
        (second (nat_le last.left unit) change.seen last.seen before
        ∙ ap (λ (begins : ℕ). by_then unit begins change.seen (by_then unit last.left last.seen before)) (sym (eqb-true (unit_of window change.time) last.left is)))
    by_unit again false is = again (by_then unit last.left last.seen before) (begun window change)

pub from_none : (window : Window) (unit : ℕ) (before : Option Seen) (changes : List Change) → shown_from unit before (spans_behind window None changes) ≡ seen_from window unit before changes
unfolding shown_from seen_from spans_behind
from_none window unit before [] = refl
from_none window unit before (change ∷ later) = from_open window unit before (begun window change) later
