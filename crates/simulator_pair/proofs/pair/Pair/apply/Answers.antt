use Rattle.std.proofs.Common.{subst, ap}
use Rattle.simulator_pair.specs.inside.Parts.{seen, seen_ends}
use Rattle.simulator_pair.specs.Theorem.{HappensRightly, names}
use Rattle.rasta_core.specs.Run.{Ends}
use Rattle.simulator_pair.proofs.Lit.{lit_answer, lit_shows, stop_holds}
use Rattle.simulator_pair.proofs.Linked.{Laws, TakingLaws, linked_answer, happens_rightly}
use Rattle.simulator_pair.proofs.pair.Pair.apply.Goals as goal

pub invariant_of-self : goal.invariant_of-self
unfolding seen
invariant_of-self c =
    let laws : Laws = record { time = c.every_event_keeps_time.ensures; order = c.every_event_keeps_order.ensures.kept; intact = c.intact_is_tested.ensures }
    in let applied = c.apply.ensures
    in record {
      whole = applied.whole;
      linked = linked_answer laws c.args.event.now (seen c.self.inside.parts) (seen c.apply.new.self) c.apply.result applied.step applied.allowed applied.same c.gives_item.ensures c.self.invariant.linked;
      lit = lit_answer (record { stays = c.outside_until_it_enters.ensures.stays; server = c.outside_until_it_enters.ensures.server }) c.args.event.now (seen c.self.inside.parts) (seen c.apply.new.self) c.apply.result applied.step applied.same (ap (λ i. i.role) c.self.invariant.linked.timely.server.identity) c.self.invariant.lit;
    }

pub returns-clause-safe : goal.returns-clause-safe
unfolding seen
returns-clause-safe c = c.order_is_safe.ensures names _ (invariant_of-self c).linked.ordered

pub returns-clause-rightly : goal.returns-clause-rightly
unfolding seen
returns-clause-rightly c =
    let laws : TakingLaws = record { fresh = c.items_are_fresh.ensures; own = c.own_connection.ensures.taken; inside = c.own_connection.ensures.inside; opening = c.opening_is_new.ensures; intact = c.intact_is_tested.ensures; read = c.read_was_written.ensures.intact }
    in let Right : Ends → Type 0 = λ ends. HappensRightly c.args.event.now ends
    in subst Right (ap (λ v. v.run.ends) c.self.view_is) (happens_rightly laws c.args.event.now (seen_ends c.self.inside.parts) c.self.invariant.linked)

pub returns-clause-lamp : goal.returns-clause-lamp
unfolding seen
returns-clause-lamp c = lit_shows (seen c.apply.new.self) (invariant_of-self c).lit

pub returns-clause-until : goal.returns-clause-until
unfolding seen
returns-clause-until c = (invariant_of-self c).lit.until

pub returns-clause-stop : goal.returns-clause-stop
unfolding seen
returns-clause-stop c = stop_holds (seen c.apply.new.self) (c.order_is_safe.ensures names _ (invariant_of-self c).linked.ordered) (invariant_of-self c).lit
