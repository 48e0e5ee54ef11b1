use Rattle.std.proofs.Common.{List, subst}
use Rattle.replay.specs.replay_lines.declared.session.Entry.{Entry}
use Rattle.station_record.specs.DecodedSession.{IsTold}
use Rattle.station_record.proofs.decode.decode.Goals as goal

pub returns-clause-done : goal.returns-clause-done
returns-clause-done g c =
    let texts = c.in_ok-texts.texts
    in let read = c.in_ok-texts.ensures.read
    in let told = c.in_ok-write_traffic.ensures.done
    in record {
      site = texts.table;
      sound = read.sound;
      entries = texts.entries.items;
      says = read.says;
      told = subst (λ (entries : List Entry). IsTold texts.table entries (g.W.Write.contents c.args.out.now) (g.W.Write.contents c.write_traffic.new.out)) c.deref.ensures.value told;
    }
