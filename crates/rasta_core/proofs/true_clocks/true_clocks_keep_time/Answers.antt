use Rattle.rasta_core_spec.specs.Events.{run, started}
use Rattle.rasta_core.proofs.TrueClocks.{ClockLaws, run_ordered, run_timely}
use Rattle.rasta_core.proofs.true_clocks.true_clocks_keep_time.Goals as goal

pub returns-clause-time : goal.returns-clause-time
returns-clause-time c = λ names start events are may time.
    let laws : ClockLaws = record {
      off = c.steady_clocks_are_off_little.ensures;
      starts = c.ends_keep_time_by_their_offsets.ensures.starts;
      passes = c.ends_keep_time_by_their_offsets.ensures.passes;
      at_once = c.ends_keep_time_by_their_offsets.ensures.at_once;
      order = c.every_event_keeps_order.ensures.kept;
      order_passes = c.time_keeps_order.ensures;
    }
    in run_timely laws names start events are (c.every_event_keeps_order.ensures.starts names start) may time

pub returns-clause-order : goal.returns-clause-order
returns-clause-order c = λ names start events are may time.
    let laws : ClockLaws = record {
      off = c.steady_clocks_are_off_little.ensures;
      starts = c.ends_keep_time_by_their_offsets.ensures.starts;
      passes = c.ends_keep_time_by_their_offsets.ensures.passes;
      at_once = c.ends_keep_time_by_their_offsets.ensures.at_once;
      order = c.every_event_keeps_order.ensures.kept;
      order_passes = c.time_keeps_order.ensures;
    }
    in run_ordered laws names start events are (c.every_event_keeps_order.ensures.starts names start) may time

pub returns-clause-safe : goal.returns-clause-safe
returns-clause-safe c = λ names start events are may time.
    let laws : ClockLaws = record {
      off = c.steady_clocks_are_off_little.ensures;
      starts = c.ends_keep_time_by_their_offsets.ensures.starts;
      passes = c.ends_keep_time_by_their_offsets.ensures.passes;
      at_once = c.ends_keep_time_by_their_offsets.ensures.at_once;
      order = c.every_event_keeps_order.ensures.kept;
      order_passes = c.time_keeps_order.ensures;
    }
    in c.order_is_safe.ensures names (run events (started names start)) (run_ordered laws names start events are (c.every_event_keeps_order.ensures.starts names start) may time)
