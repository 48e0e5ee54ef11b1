use Rattle.std.proofs.Common.{◌≡◌, ◌∙◌, ◌++◌, ◌<◌, ◌≤◌, ap, sym, subst, List, ℕ, get_or, length, string_bytes}
use Rattle.ixl_state.specs.layout.Entries.{Site}
use Rattle.ixl_state.specs.layout.declared.entries.Signal.{Signal}
use Rattle.simulator_spec.specs.simulator_event.declared.snapshot.Held.{Held}
use Rattle.simulator_spec.specs.Picture.{authority_text}
use Rattle.simulator_spec.specs.Interlocking.{held_of}
use Rattle.simulator.specs.inside.Lines.{signal_line}
use Rattle.simulator.proofs.Lines.{signals-add, signals-all}
use Rattle.simulator.proofs.picture.push_signals.Goals as goal

pub loop-place-preserved : goal.loop-place-preserved
loop-place-preserved c =
    let world = c.args.world.now
    in let site = world.sited.site
    in let held = held_of world.sited.table world.run.interlocking world.run.frozen
    in let place = c.loop-place.place
    in let signal = c.index-signals-place.result
    in let old = string_bytes c.loop-place.text
    in let layout_is : c.layout-layout.result.now ≡ site = c.layout-layout.ensures.entries ∙ c.table.ensures
    in let all : c.signals-signals.result.now ≡ site.signals = c.signals-signals.ensures ∙ ap (λ (p : Site). p.signals) layout_is
    in let within : place < length site.signals = subst (λ (l : List Signal). place < length l) all c.loop-place-test.true
    in let at : signal ≡ get_or site.signals place signal = subst (λ (l : List Signal). signal ≡ get_or l place signal) all c.index-signals-place.is
    in let route : c.authority-route.result.now ≡ authority_text site place held =
    c.authority-route.ensures ∙ ap (λ (p : Site). authority_text p place c.deref.result.now) layout_is ∙ ap (λ (h : List Held). authority_text site place h) (c.deref.ensures.0 ∙ c.held-held.ensures)
    in signals-add site held place site.signals world.run.signals signal c.shown.result old (string_bytes c.push_signal.new.text) _ within at c.shown.ensures
    (c.in_ok-push_signal.ensures ∙ ap (λ (s : Signal). old ++ signal_line s.name c.shown.result c.authority-route.result.now) (sym c.index-signals-place.is) ∙ ap (λ (r : List ℕ). old ++ signal_line signal.name c.shown.result r) route) c.loop-place.invariant

pub returns : goal.returns
returns c =
    let world = c.args.world.now
    in let site = world.sited.site
    in let layout_is : c.layout-layout.result.now ≡ site = c.layout-layout.ensures.entries ∙ c.table.ensures
    in let all : c.signals-signals.result.now ≡ site.signals = c.signals-signals.ensures ∙ ap (λ (p : Site). p.signals) layout_is
    in let past : length site.signals ≤ c.loop-place.place = subst (λ (l : List Signal). length l ≤ c.loop-place.place) all c.loop-place-test.false
    in signals-all site (held_of world.sited.table world.run.interlocking world.run.frozen) c.loop-place.place site.signals world.run.signals (string_bytes c.loop-place.text) _ past c.loop-place.invariant
