use Rattle.std.proofs.Common.{List, subst}
use Rattle.replay_lines.specs.Replay.{Judges}
use Rattle.replay_lines.specs.declared.session.Entry.{Entry}
use Rattle.replay.proofs.Verdicts.{judged}
use Rattle.replay.specs.World.{worlds}
use Rattle.replay.proofs.session.verdict.Goals as goal

pub returns-clause-done : goal.returns-clause-done
returns-clause-done g c =
    let site = c.in_ok-table.table
    in let verdict = c.in_ok-verdict.verdict
    in let found = judged verdict c.in_ok-verdict.ensures.same c.in_ok-verdict.ensures.differs
    in record {
      site = site;
      sound = c.in_ok-table.ensures.sound;
      entries = c.in_ok-entries.entries.items;
      says = c.in_ok-entries.ensures;
      first = found.0;
      begins = found.1;
      judged = subst (λ (entries : List Entry). Judges worlds found.0 entries verdict) c.deref.ensures.value found.2;
      appended = c.in_ok-write_verdict.ensures;
      safe = c.played_worlds_are_safe.ensures.first site found.0 found.1;
    }
