use Rattle.node_record.proofs.Explained.{decoded, late_told}
use Rattle.node_record.proofs.decode.decode.Goals as goal

pub returns-clause-done : goal.returns-clause-done
returns-clause-done g c =
    decoded c.args.layout.now c.args.name.now c.args.recording.now c.in_ok-texts.texts.table c.layout.result.now c.in_ok-texts.texts.read (g.W.Write.contents c.args.out.now) (g.W.Write.contents c.write_traffic-told.new.out)
    c.write_traffic-told.result c.in_ok-texts.ensures.read c.layout.ensures.entries c.write_traffic-told.ensures.done

pub returns-clause-explains : goal.returns-clause-explains
returns-clause-explains g c =
    late_told c.args.layout.now c.args.name.now c.args.recording.now c.write_traffic-told.result c.args.out.now c.write_traffic-told.new.out c.write_traffic-told.ensures.failed c.in_ok-texts.ensures.reads
