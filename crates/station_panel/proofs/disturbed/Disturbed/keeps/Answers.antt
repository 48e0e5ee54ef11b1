use Rattle.std.proofs.Common.{ℕ, Bool, List, ◌∙◌, ap, is_ok, map, refl, subst, sym}
use Rattle.station_panel.specs.DisturbedNetwork.{DisturbedView, disturbance, late_of}
use Rattle.station_panel.specs.Inside.{Keeps}
use Rattle.station_panel.proofs.DisturbedCalls.{keeps}
use Rattle.station_panel.proofs.disturbed.Disturbed.keeps.Goals as goal

pub returns-clause-kept : goal.returns-clause-kept
returns-clause-kept g c =
    let d : DisturbedView g.row.N.Denot = disturbance c.args.self.now in
    let late = c.push_back.new.self.items in
    subst (λ (b : Bool). Keeps d c.args.to c.args.bytes.now b (record d { late = map late_of late })) (sym c.is_ok.ensures.value)
    (keeps (is_ok c.push_back.result) _ late _ d c.args.to c.args.bytes.now (sym c.comes_late.ensures ∙ c.if-not-comes_late.false) refl
    (ap (λ (b : List ℕ). record { to = c.args.to; bytes = b; due = c.saturating_add-due.result }) c.in-Ok.ensures.items
    ∙ ap (λ (n : ℕ). record { to = c.args.to; bytes = c.args.bytes.now; due = n }) c.saturating_add-due.ensures)
    c.push_back.ensures.items)
