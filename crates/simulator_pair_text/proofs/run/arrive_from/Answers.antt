use Rattle.std.proofs.Common.{sym, ◌∙◌, ap, arith, ◌+◌, ◌-◌}
use Rattle.simulator_pair_text.specs.Flow.{arriving_from}
use Rattle.simulator_pair_text.proofs.Rounds.{arriving-next}
use Rattle.simulator_pair_text.proofs.run.arrive_from.Goals as goal

pub loop-index-preserved : goal.loop-index-preserved
loop-index-preserved c =
    let before = c.loop-index.invariant
    in let test = c.loop-index-test.true
    in let spent = c.arrive.ensures.room
    in let room = before.room
    in let reached = before.reached
    in let within = before.within
    in record {
      run =
          ap (arriving_from (c.loop-index.index + 1) (c.args.end - (c.loop-index.index + 1))) c.arrive.ensures.run
          ∙ sym (arriving-next c.loop-index.index c.args.end c.loop-index.pair.run (omega arith))
          ∙ before.run;
      room = omega arith;
      reached = omega arith;
      within = omega arith;
    }

pub returns-clause-room : goal.returns-clause-room
returns-clause-room c =
    let room = c.loop-index.invariant.room
    in let within = c.loop-index.invariant.within
    in omega arith
