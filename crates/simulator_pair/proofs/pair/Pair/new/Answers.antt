use Rattle.std.proofs.Common.{inl, refl, sym, subst}
use Rattle.rasta_core.specs.Calls.{created}
use Rattle.rasta_core.specs.Events.{Start}
use Rattle.simulator_pair.specs.Pair.{PairState}
use Rattle.simulator_pair.specs.inside.Lit.{IsLit}
use Rattle.simulator_pair.specs.Theorem.{names}
use Rattle.simulator_pair.specs.inside.Parts.{IsLinked, seen}
use Rattle.simulator_pair.proofs.Linked.{are_names}
use Rattle.simulator_pair.proofs.pair.Pair.new.Goals as goal

pub invariant_of-result : goal.invariant_of-result
unfolding seen created
invariant_of-result c =
    let start : Start = record { time = 0; moment = 0; client_clock = 0; client_first = 0; server_clock = 0; server_first = 0 }
    in let Linked : PairState → Type 0 = λ state. IsLinked state.ends
    in record {
      whole = c.in_ok-parts.ensures.whole;
      linked = subst Linked (sym c.in_ok-parts.ensures.state) (record {
        timely = c.starts_in_time.ensures names start are_names;
        ordered = c.every_event_keeps_order.ensures.starts names start;
      });
      lit = subst IsLit (sym c.in_ok-parts.ensures.state) (record { until = refl; inside = λ inside. cc; outside = λ outside. inl refl });
    }
