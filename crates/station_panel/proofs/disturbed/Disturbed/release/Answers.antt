use Rattle.std.proofs.Common.{◌≡◌, ◌∙◌, length, sym, arith}
use Rattle.std.proofs.lemmas.List.{length-map}
use Rattle.station_panel.specs.DisturbedNetwork.{disturbance, late_of}
use Rattle.station_panel.proofs.DisturbedCalls.{goes, none_is_due, nothing_waits}
use Rattle.station_panel.proofs.disturbed.Disturbed.release.Goals as goal

pub loop-init : goal.loop-init
loop-init g c = (omega arith, λ last rest. rest)

pub returns-then-not-is_first_due : goal.returns-then-not-is_first_due
returns-then-not-is_first_due g c = c.loop.invariant.1 (disturbance c.loop.self) (none_is_due g.N.Datagrams.told g.N.Datagrams.carries (disturbance c.loop.self) (sym c.is_first_due.ensures ∙ c.if-not-is_first_due.true))

pub loop-preserved : goal.loop-preserved
loop-preserved g c =
    let before = c.loop.invariant in
    let on = goes g.N.Datagrams.told g.N.Datagrams.carries (disturbance c.loop.self) (disturbance c.send_first.new.self) (sym c.is_first_due.ensures ∙ c.if-not-is_first_due.false) c.send_first.ensures in
    let count = before.0 in
    let one = on.0 in
    (omega (arith, count, one), λ last rest. before.1 last (on.1 last rest))

pub returns : goal.returns
returns g c =
    let before = c.loop.invariant in
    let count = before.0 in
    let all = c.loop-test.false in
    let many = length-map c.args.self.now.late.items late_of in
    let held = c.args.self.now.late.ok.0 in
    let none : length (disturbance c.loop.self).late ≡ 0 = omega (arith, count, all, many, held) in
    before.1 (disturbance c.loop.self) (nothing_waits g.N.Datagrams.told g.N.Datagrams.carries (disturbance c.loop.self) none)
