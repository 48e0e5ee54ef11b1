use Rattle.std.proofs.Common.{◌∙◌, ◌+◌, ap, drop, sym}
use Rattle.station_layout.specs.Places.{counted}
use Rattle.station_layout.specs.UnknownAdvice.{first_missed, missed, spot_of}
use Rattle.station_layout.proofs.MissedNames.{missed_here, none_missed}
use Rattle.station_layout.proofs.unknown.first_missed.Goals as goal

pub returns-in-Some : goal.returns-in-Some
returns-in-Some g c =
    let w = c.args.written.now in
    let spot = spot_of c.args.place c.args.key (counted c.loop-item.at) in
    let at = c.spot_of.ensures ∙ ap (spot_of c.args.place c.args.key) c.saturating_add-at.ensures in
    let told = ap (λ at. missed w at c.named.result) at ∙ ap (missed w spot) (c.named.ensures ∙ ap (g.T.Naming.named c.args.key) c.item-item.is) in
    missed_here w c.args.place c.args.key (g.T.Naming.named c.args.key) c.args.items.now c.loop-item.item-index c.loop-item.at c.item-item.result _ c.in-Some.found
    c.loop-item-test.true (sym told ∙ (sym c.missed.ensures ∙ c.in-Some.is)) c.loop-item.invariant

pub loop-item-preserved : goal.loop-item-preserved
loop-item-preserved g c =
    let w = c.args.written.now in
    let spot = spot_of c.args.place c.args.key (counted c.loop-item.at) in
    let at = c.spot_of.ensures ∙ ap (spot_of c.args.place c.args.key) c.saturating_add-at.ensures in
    let told = ap (λ at. missed w at c.named.result) at ∙ ap (missed w spot) (c.named.ensures ∙ ap (g.T.Naming.named c.args.key) c.item-item.is) in
    ap (λ n. first_missed w c.args.place c.args.key (g.T.Naming.named c.args.key) n (drop (c.loop-item.item-index + 1) c.args.items.now)) c.saturating_add-at.ensures
    ∙ none_missed w c.args.place c.args.key (g.T.Naming.named c.args.key) c.args.items.now c.loop-item.item-index c.loop-item.at c.item-item.result _
    c.loop-item-test.true (sym told ∙ (sym c.missed.ensures ∙ c.in_default.is)) c.loop-item.invariant
