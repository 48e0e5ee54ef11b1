-- Spans are closed one after the other.
use Rattle.std.proofs.Common.{◌≡◌, ◌∙◌, ℕ, ◌+◌, ◌<◌, ◌≤◌, get_or, ◌==◌, Bool, true, false, if◌then◌else◌, List, [], ◌∷◌, ◌++◌, length, drop, Option, Some, None, ap, sym, refl}
use Rattle.std.proofs.Math.ListN.{drop_of_length-le}
use Rattle.std.proofs.lemmas.List.{append-nil, append_assoc, at_drop_more}
use Rattle.std.specs.List.{filter}
use Rattle.lane_chart.specs.Spans.{begun, ended, is_drawn, joined, spans_behind, unit_of}
use Rattle.lane_chart.specs.declared.change.Change.{Change}
use Rattle.lane_chart.specs.declared.lane.Lane.{Lane}
use Rattle.lane_chart.specs.declared.scale.Window.{Window}
use Rattle.lane_chart.specs.declared.spans.Span.{Span}

-- the first change begins a span
pub begins : (window : Window) (change : Change) (later : List Change) (spans : List Span) → spans ++ spans_behind window (Some (begun window change)) later ≡ spans ++ spans_behind window None (change ∷ later)
unfolding spans_behind
begins window change later spans = refl

-- a change in the unit of the open span is joined with it
pub joins : (window : Window) (last : Span) (change : Change) (later : List Change) (spans : List Span) → (unit_of window change.time == last.left) ≡ true
    → spans ++ spans_behind window (Some (joined change last)) later ≡ spans ++ spans_behind window (Some last) (change ∷ later)
unfolding spans_behind
joins window last change later spans same =
    ap (λ (b : Bool). spans ++ (if b then spans_behind window (Some (joined change last)) later else ended (unit_of window change.time) last ∷ spans_behind window (Some (begun window change)) later)) (sym same)

-- another one ends it
pub ends : (window : Window) (last : Span) (change : Change) (later : List Change) (spans new : List Span) → (unit_of window change.time == last.left) ≡ false → new ≡ spans ++ ended (unit_of window change.time) last ∷ []
    → new ++ spans_behind window (Some (begun window change)) later ≡ spans ++ spans_behind window (Some last) (change ∷ later)
unfolding spans_behind
ends window last change later spans new other push =
    ap (λ (n : List Span). n ++ spans_behind window (Some (begun window change)) later) push
    ∙ append_assoc spans (ended (unit_of window change.time) last ∷ []) (spans_behind window (Some (begun window change)) later)
    ∙ ap (λ (b : Bool). spans ++ (if b then spans_behind window (Some (joined change last)) later else ended (unit_of window change.time) last ∷ spans_behind window (Some (begun window change)) later)) (sym other)

-- what is open at the end
pub last_open : (window : Window) (last : Span) (spans new : List Span) → new ≡ spans ++ last ∷ [] → new ≡ spans ++ spans_behind window (Some last) []
unfolding spans_behind
last_open window last spans new push = push

pub none_open : (window : Window) (spans : List Span) → spans ≡ spans ++ spans_behind window None []
unfolding spans_behind
none_open window spans = sym (append-nil spans)

-- ---- change by change, of those of a lane that are drawn

-- no change is left
pub closes : (window : Window) (lane : Lane) (changes : List Change) (place : ℕ) (before : Option Span) (spans new whole : List Span) → length changes ≤ place
    → ((any : Window) → new ≡ spans ++ spans_behind any before []) → spans ++ spans_behind window before (filter (is_drawn window lane) (drop place changes)) ≡ whole → new ≡ whole
closes window lane changes place before spans new whole past push so =
    push window ∙ ap (λ (cs : List Change). spans ++ spans_behind window before (filter (is_drawn window lane) cs)) (sym (drop_of_length-le changes past)) ∙ so

-- one change more
pub goes_on : (window : Window) (lane : Lane) (changes : List Change) (place : ℕ) (any : Change) (before next : Option Span) (spans new whole : List Span) → place < length changes
    → is_drawn window lane (get_or changes place any) ≡ true
    → ((later : List Change) → new ++ spans_behind window next later ≡ spans ++ spans_behind window before (get_or changes place any ∷ later))
    → spans ++ spans_behind window before (filter (is_drawn window lane) (drop place changes)) ≡ whole → new ++ spans_behind window next (filter (is_drawn window lane) (drop (place + 1) changes)) ≡ whole
goes_on window lane changes place any before next spans new whole within is step so =
    let drawn = is_drawn window lane in
    let later = filter drawn (drop (place + 1) changes) in
    let change = get_or changes place any in
    step later
    ∙ ap (λ (b : Bool). spans ++ spans_behind window before (if b then change ∷ later else later)) (sym is)
    ∙ sym (at_drop_more (λ (left : List Change). spans ++ spans_behind window before (filter drawn left)) changes place any within)
    ∙ so

-- one that isn't drawn
pub passes_over : (window : Window) (lane : Lane) (changes : List Change) (place : ℕ) (any : Change) (before : Option Span) (spans whole : List Span) → place < length changes
    → is_drawn window lane (get_or changes place any) ≡ false
    → spans ++ spans_behind window before (filter (is_drawn window lane) (drop place changes)) ≡ whole → spans ++ spans_behind window before (filter (is_drawn window lane) (drop (place + 1) changes)) ≡ whole
passes_over window lane changes place any before spans whole within isnt so =
    let drawn = is_drawn window lane in
    let later = filter drawn (drop (place + 1) changes) in
    let change = get_or changes place any in
    ap (λ (b : Bool). spans ++ spans_behind window before (if b then change ∷ later else later)) (sym isnt)
    ∙ sym (at_drop_more (λ (left : List Change). spans ++ spans_behind window before (filter drawn left)) changes place any within)
    ∙ so
