use Rattle.std.proofs.Common.{◌≡◌, ◌<◌, ◌++◌, ◌∷◌, [], length, sym, ap, ◌∙◌, arith}
use Rattle.std.specs.Option.{option_map}
use Rattle.std.proofs.lemmas.List.{append-nil, length-append}
use Rattle.ixl_state.specs.layout.Entries.{Site}
use Rattle.ixl_state.specs.layout.declared.ids.RouteId.{RouteId}
use Rattle.ixl_state.specs.ixl_table.Table.{SitedTable}
use Rattle.simulator_spec.specs.Interlocking.{pair_then}
use Rattle.simulator.proofs.Pairs.{next_signal}
use Rattle.simulator.proofs.clocked_interlocking.ClockedInterlocking.authorities.Goals as goal
use Rattle.simulator.proofs.clocked_interlocking.ClockedInterlocking.authorities.Goals.{in-Some, in-None}

pub loop-place-preserved : goal.loop-place-preserved
loop-place-preserved c =
    let self = c.args.self.now
    in let place = c.loop-place.place
    in let same : c.layout.result.now ≡ self.sited.site = c.layout.ensures.entries ∙ c.checked.ensures.site ∙ ap (λ (p : SitedTable). p.site) c.table.ensures.sited
    in let signals = ap length (c.signals-place-end.ensures ∙ ap (λ (p : Site). p.signals) same)
    in let below : place < length self.interlocking.ixl.known_signals = omega (arith, c.loop-place-test.true, signals, c.table.ensures.known_signals)
    in let route = option_map (λ (r : RouteId). r.0) c.authority.result
    in let pairs : c.match-authority.held.items ≡ c.loop-place.held.items ++ pair_then place route [] =
    elim c.match-authority.branch [
      | in-Some w ↦ ap (λ h. h.items) w.held-is ∙ w.push.ensures.items ∙ ap (λ r. c.loop-place.held.items ++ pair_then place (option_map (λ (r : RouteId). r.0) r) []) (sym w.in-Some.is)
      | in-None w ↦ ap (λ h. h.items) w.held-is ∙ sym (append-nil c.loop-place.held.items) ∙ ap (λ r. c.loop-place.held.items ++ pair_then place (option_map (λ (r : RouteId). r.0) r) []) (sym w.in-None.is)
    ]
    in record {
      pairs = next_signal self.sited.table self.interlocking.ixl place (length self.interlocking.ixl.known_signals) route c.loop-place.held.items c.match-authority.held.items _ below c.authority.ensures pairs c.loop-place.invariant.pairs;
      few = elim c.match-authority.branch [
        | in-Some w ↦ omega (arith, ap (λ h. length h.items) w.held-is, ap length w.push.ensures.items, length-append c.loop-place.held.items ((record { signal = record { 0 = place }; route = w.in-Some.route }) ∷ []), c.loop-place.invariant.few)
        | in-None w ↦ omega (arith, ap (λ h. length h.items) w.held-is, c.loop-place.invariant.few)
      ];
    }
