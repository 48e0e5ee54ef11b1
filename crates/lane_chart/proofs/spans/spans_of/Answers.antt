use Rattle.std.proofs.Common.{◌≡◌, [], List, ◌∙◌, ◌+◌, ◌++◌, Global, Option, Vec, ap, drop, sym}
use Rattle.std.specs.List.{filter}
use Rattle.lane_chart.specs.Spans.{is_drawn, spans_behind}
use Rattle.lane_chart.specs.declared.scale.Window.{Window}
use Rattle.lane_chart.specs.declared.spans.Span.{Span}
use Rattle.lane_chart.proofs.SpansClose.{closes, goes_on, last_open, none_open, passes_over}
use Rattle.lane_chart.proofs.spans.spans_of.Goals.{else-is_drawn, in-None, in-Some+in_ok-push-in-Some, then-is_drawn+in_ok-next}
use Rattle.lane_chart.proofs.spans.spans_of.Goals as goal

pub loop-change-preserved : goal.loop-change-preserved
loop-change-preserved c =
    let window = c.args.window in
    let lane = c.args.lane in
    let changes = c.args.changes.now in
    let left = filter (is_drawn window lane) (drop (c.loop-change.change-index + 1) changes) in
    elim c.if-is_drawn.branch [
      | then-is_drawn+in_ok-next w ↦
          ap (λ (spans : Vec Span Global). spans.items ++ spans_behind window c.if-is_drawn.before left) w.spans-is
          ∙ ap (λ (before : Option Span). w.open_span.new.spans.items ++ spans_behind window before left) w.before-is
          ∙ goes_on window lane changes c.loop-change.change-index _ c.loop-change.before _ c.loop-change.spans.items w.open_span.new.spans.items _
          c.loop-change-test.true (sym c.is_drawn.ensures ∙ w.if-is_drawn.true) w.in_ok-next.ensures c.loop-change.invariant
      | else-is_drawn w ↦
          ap (λ (spans : Vec Span Global). spans.items ++ spans_behind window c.if-is_drawn.before left) w.spans-is
          ∙ ap (λ (before : Option Span). c.loop-change.spans.items ++ spans_behind window before left) w.before-is
          ∙ passes_over window lane changes c.loop-change.change-index _ c.loop-change.before c.loop-change.spans.items _
          c.loop-change-test.true (sym c.is_drawn.ensures ∙ w.if-is_drawn.false) c.loop-change.invariant
    ]

pub returns : goal.returns
returns c =
    let spans = c.loop-change.spans.items in
    let ended = λ (new : List Span) (push : (any : Window) → new ≡ spans ++ spans_behind any c.loop-change.before []).
    closes c.args.window c.args.lane c.args.changes.now c.loop-change.change-index c.loop-change.before spans new _ c.loop-change-test.false push c.loop-change.invariant in
    elim c.match-before.branch [
      | in-Some+in_ok-push-in-Some w ↦
          ap (λ (spans : Vec Span Global). spans.items) w.spans-is
          ∙ ended w.push.new.self.items (λ any. last_open any w.in-Some.last spans w.push.new.self.items w.in_ok-push-in-Some.ensures.items
          ∙ ap (λ (before : Option Span). spans ++ spans_behind any before []) (sym w.in-Some.is))
      | in-None w ↦
          ap (λ (spans : Vec Span Global). spans.items) w.spans-is
          ∙ ended spans (λ any. none_open any spans ∙ ap (λ (before : Option Span). spans ++ spans_behind any before []) (sym w.in-None.is))
    ]
