use Rattle.rasta_core.proofs.LinkOffsets.{OffsetLaws, all_at_once, begins_by, passes_for, timely_by}
use Rattle.rasta_core.proofs.true_clocks.links_keep_time_by_their_offsets.Goals as goal

pub returns-clause-starts : goal.returns-clause-starts
returns-clause-starts c = λ count names start are.
    let laws : OffsetLaws = record {
      starts = c.ends_keep_time_by_their_offsets.ensures.starts;
      passes = c.ends_keep_time_by_their_offsets.ensures.passes;
      at_once = c.ends_keep_time_by_their_offsets.ensures.at_once;
    }
    in begins_by laws count names start are

pub returns-clause-passes : goal.returns-clause-passes
returns-clause-passes c = λ count names old new elapsed of_clients of_servers links is goes.
    let laws : OffsetLaws = record {
      starts = c.ends_keep_time_by_their_offsets.ensures.starts;
      passes = c.ends_keep_time_by_their_offsets.ensures.passes;
      at_once = c.ends_keep_time_by_their_offsets.ensures.at_once;
    }
    in passes_for laws count names old new elapsed of_clients of_servers links is goes

pub returns-clause-at_once : goal.returns-clause-at_once
returns-clause-at_once c = λ count names offsets events links are is once may.
    let laws : OffsetLaws = record {
      starts = c.ends_keep_time_by_their_offsets.ensures.starts;
      passes = c.ends_keep_time_by_their_offsets.ensures.passes;
      at_once = c.ends_keep_time_by_their_offsets.ensures.at_once;
    }
    in all_at_once laws count names offsets events links are is once may

pub returns-clause-timely : goal.returns-clause-timely
returns-clause-timely c = timely_by
